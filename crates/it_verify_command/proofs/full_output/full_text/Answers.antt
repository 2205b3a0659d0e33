use Rattle.std.proofs.lemmas.Result.{IfOk-weaker}
use Rattle.it_verify_command.proofs.full_output.full_text.Goals as goal

pub returns : goal.returns
returns g c =
    IfOk-weaker c.full_json_report.result _ _ (λ text is. record {
      beside = c.in_ok-beside.beside;
      findings = c.in_ok-beside.ensures.findings;
      evidence = rw c.in_ok-beside.ensures.evidence c.requires.behind;
      notes = c.in_ok-beside.ensures.notes;
      text_is = is;
    }) c.full_json_report.ensures
