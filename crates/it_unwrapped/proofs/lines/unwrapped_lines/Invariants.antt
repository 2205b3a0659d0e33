-- The lines so far were replaced.
use Rattle.std.proofs.Common.{length}
use Rattle.it_unwrapped.proofs.Replacing.{HasReplaced}
use Rattle.it_unwrapped.proofs.lines.unwrapped_lines.Given as goal

abbrev pub invariant-loop-rest : goal.invariant-loop-rest
invariant-loop-rest l = HasReplaced l.fn.provenance l.rest l.lines.items

abbrev pub decreases-loop-rest : goal.decreases-loop-rest
decreases-loop-rest l = length l.rest
