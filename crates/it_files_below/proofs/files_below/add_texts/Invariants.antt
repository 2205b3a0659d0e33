use Rattle.std.proofs.Common.{◌≡◌, ◌++◌, map, string_bytes}
use Rattle.std.specs.Vec.Iter.{into_iter_items}
use Rattle.it_files_below.proofs.files_below.add_texts.Given as goal

-- the texts that were yielded stand at the end
abbrev pub invariant-loop-text : goal.invariant-loop-text
invariant-loop-text l = (l.yielded ++ into_iter_items l.text-iterator ≡ l.fn.more.items)
    × (l.texts.items ≡ l.fn.texts.items ++ map string_bytes l.yielded)
