use Rattle.std.proofs.Common.{All, take}
use Rattle.it_rule_notes.specs.Delivery.{LooksAtSteps}
use Rattle.it_rule_notes.proofs.judged_note.look_at_steps.Given as goal

-- the rules so far look at no record but those of steps
abbrev pub invariant-loop-rule : goal.invariant-loop-rule
invariant-loop-rule l = All (LooksAtSteps l.inspections) (take l.rule-index l.rules)
