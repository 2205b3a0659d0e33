use Rattle.it_unused.proofs.Unusing.{SoFar}
use Rattle.it_unused.proofs.unused.unused_expectations.Given as goal

-- those of the expectations so far that are unused
abbrev pub invariant-loop-place : goal.invariant-loop-place
invariant-loop-place l = SoFar l.expectations l.delivered l.place-counter l.unused.items
