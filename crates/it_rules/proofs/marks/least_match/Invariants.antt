use Rattle.it_rules.proofs.Searching.{NoneBefore}
use Rattle.it_rules.proofs.marks.least_match.Given as goal

abbrev pub invariant-loop-place : goal.invariant-loop-place
invariant-loop-place l = NoneBefore l.paths l.marks l.pattern l.place
