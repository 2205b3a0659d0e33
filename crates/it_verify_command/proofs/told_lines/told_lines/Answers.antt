use Rattle.std.proofs.lemmas.Result.{IfOk-weaker}
use Rattle.it_verify_command.proofs.told_lines.told_lines.Goals as goal

pub returns : goal.returns
returns g c =
    IfOk-weaker c.lines.result _ _ (λ lines hold. record {
      notes = c.in_ok-notes.notes;
      are_true = c.in_ok-notes.ensures;
      hold = hold;
    }) c.lines.ensures
