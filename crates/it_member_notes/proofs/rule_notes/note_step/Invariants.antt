use Rattle.std.proofs.Common.{All}
use Rattle.it_member_notes.specs.LayoutNotes.{Holds}
use Rattle.it_member_notes.proofs.rule_notes.note_step.Given as goal

abbrev pub invariant-loop-side : goal.invariant-loop-side
invariant-loop-side l = All (Holds l.named.layout.now) l.notes.items
