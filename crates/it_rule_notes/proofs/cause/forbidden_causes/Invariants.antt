use Rattle.std.proofs.Common.{All}
use Rattle.it_rule_notes.specs.Cause.{TellsCause}
use Rattle.it_rule_notes.specs.inside.JudgedRules.{judging_in}
use Rattle.it_rule_notes.proofs.cause.forbidden_causes.Given as goal

-- each note so far is true
abbrev pub invariant-loop-path : goal.invariant-loop-path
invariant-loop-path l = All (TellsCause (judging_in l.judged) l.place) l.notes.items
