use Rattle.it_rule_notes.proofs.CountingFiles.{some_body}
use Rattle.it_rule_notes.proofs.counting_file.has_body.Goals as goal

pub returns : goal.returns
returns c =
    rw c.is_some.ensures
    (some_body c.args.step.now c.args.bytes.now _ c.in_ok-body_in.ensures)
