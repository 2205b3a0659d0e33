use Rattle.std.proofs.Common.{◌≡◌, ◌++◌, take}
use Rattle.std.specs.List.{flat_map}
use Rattle.it_notes.specs.NoteLines.{other_file_form}
use Rattle.it_notes.proofs.record_note.push_each.Given as goal

-- the names so far
abbrev pub invariant-loop-name : goal.invariant-loop-name
invariant-loop-name l = l.text.items
    ≡ l.fn.text.items ++ flat_map other_file_form (take l.name-index l.names)
