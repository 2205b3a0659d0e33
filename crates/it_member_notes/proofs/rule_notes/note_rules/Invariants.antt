use Rattle.std.proofs.Common.{All}
use Rattle.std.specs.Vec.Iter.{into_iter_items}
use Rattle.it_member_notes.specs.LayoutNotes.{Holds}
use Rattle.it_member_notes.specs.RuleListNotes.{IsOfRules}
use Rattle.it_member_notes.proofs.rule_notes.note_rules.Given as goal

-- the notes so far are true of the layout, and those that are left of the rules
abbrev pub invariant-loop-note : goal.invariant-loop-note
invariant-loop-note l = record {
  made : All (Holds l.named.layout.now) l.notes.items;
  left : All (IsOfRules l.named.layout.now l.list.rules.now) (into_iter_items l.note-iterator);
}
