use Rattle.std.proofs.Common.{◌≡◌, ◌++◌, take}
use Rattle.std.specs.List.{flat_map}
use Rattle.it_strict.specs.BelowText.{placed_line}
use Rattle.it_strict.proofs.below_lines.push_each.Given as goal

abbrev pub invariant-loop-finding : goal.invariant-loop-finding
invariant-loop-finding l =
    l.text.items ≡ l.fn.text.items
    ++ flat_map (placed_line l.at) (take l.finding-index l.findings)
