use Rattle.std.proofs.Common.{All}
use Rattle.it_member_notes.specs.LayoutNotes.{Holds}
use Rattle.it_member_notes.proofs.rule_notes.layout_rule_notes.Given as goal

abbrev pub invariant-loop-step : goal.invariant-loop-step
invariant-loop-step l = All (Holds l.layout) l.notes.items

abbrev pub invariant-loop-inspection : goal.invariant-loop-inspection
invariant-loop-inspection l = All (Holds l.layout) l.notes.items
