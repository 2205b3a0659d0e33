use Rattle.std.proofs.Common.{All}
use Rattle.it_member_notes.specs.RuleListNotes.{IsOfRules}
use Rattle.it_member_notes.proofs.list_notes.notes_on.Given as goal

abbrev pub invariant-loop-place : goal.invariant-loop-place
invariant-loop-place l = All (IsOfRules l.named.layout.now l.rules) l.notes.items
