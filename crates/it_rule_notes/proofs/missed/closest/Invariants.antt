use Rattle.std.proofs.Common.{IfSome}
use Rattle.it_rule_notes.specs.Missed.{IsMissed}
use Rattle.it_rule_notes.specs.inside.JudgedRules.{judging_in}
use Rattle.it_rule_notes.proofs.missed.closest.Given as goal

-- what was found so far misses the path
abbrev pub invariant-loop-place : goal.invariant-loop-place
invariant-loop-place l = IfSome l.found (IsMissed (judging_in l.judged) l.index l.path)
