use Rattle.it_rule_notes.proofs.CountingFiles.{some_layout}
use Rattle.it_rule_notes.proofs.counting_file.is_layout.Goals as goal

pub returns : goal.returns
returns c =
    rw c.is_some.ensures (some_layout c.args.bytes.now _ c.in_ok-layout_in.ensures)
