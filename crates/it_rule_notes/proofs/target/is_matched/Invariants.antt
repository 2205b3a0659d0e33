use Rattle.it_rule_notes.specs.Missed.{IsUnmatched}
use Rattle.it_rule_notes.specs.inside.JudgedRules.{judging_in}
use Rattle.it_rule_notes.proofs.target.is_matched.Given as goal

-- no rule so far looks for the path
abbrev pub invariant-loop-place : goal.invariant-loop-place
invariant-loop-place l = IsUnmatched (judging_in l.judged) l.place l.path
