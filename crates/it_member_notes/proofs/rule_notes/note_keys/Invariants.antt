use Rattle.std.proofs.Common.{All}
use Rattle.it_member_notes.specs.LayoutNotes.{Holds}
use Rattle.it_member_notes.proofs.rule_notes.note_keys.Given as goal

abbrev pub invariant-loop-id : goal.invariant-loop-id
invariant-loop-id l = All (Holds l.layout) l.notes.items
