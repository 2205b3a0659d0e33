use Rattle.std.proofs.Common.{◌≡◌, ◌++◌, take}
use Rattle.std.specs.List.{flat_map}
use Rattle.it_part_notes.specs.PartLines.{word_form}
use Rattle.it_part_notes.proofs.part_line.push_each.Given as goal

abbrev pub invariant-loop-word : goal.invariant-loop-word
invariant-loop-word l =
    l.text.items ≡ l.fn.text.items ++ flat_map word_form (take l.word-index l.words)
