use Rattle.std.proofs.Common.{◌≡◌, ◌++◌, take}
use Rattle.std.specs.List.{flat_map}
use Rattle.it_strict.specs.FoundText.{untied_line}
use Rattle.it_strict.proofs.untied_lines.push_each.Given as goal

abbrev pub invariant-loop-path : goal.invariant-loop-path
invariant-loop-path l =
    l.text.items ≡ l.fn.text.items ++ flat_map untied_line (take l.path-index l.untied)
