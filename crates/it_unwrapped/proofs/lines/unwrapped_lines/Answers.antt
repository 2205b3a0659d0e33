use Rattle.it_unwrapped.proofs.Replacing.{replaced_more, replaced_none}
use Rattle.it_unwrapped.proofs.lines.unwrapped_lines.Goals as goal

pub loop-rest-init : goal.loop-rest-init
loop-rest-init c = rw c.new-lines.ensures.items (replaced_none c.args.provenance.now)

pub loop-rest-preserved : goal.loop-rest-preserved
loop-rest-preserved c =
    rw c.in_ok-push.ensures.items (replaced_more _ _ _ _ c.loop-rest.invariant
    c.split_line.result.0.now c.split_line.result.1.now c.split_line.ensures.lines
    c.in_ok-add_unwrapped.ensures)
