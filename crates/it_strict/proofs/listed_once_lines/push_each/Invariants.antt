use Rattle.std.proofs.Common.{◌≡◌, ◌++◌, take}
use Rattle.std.specs.List.{flat_map}
use Rattle.it_strict.specs.ListedOnceText.{once_line}
use Rattle.it_strict.proofs.listed_once_lines.push_each.Given as goal

abbrev pub invariant-loop-once : goal.invariant-loop-once
invariant-loop-once l =
    l.text.items ≡ l.fn.text.items ++ flat_map once_line (take l.once-index l.listed)
