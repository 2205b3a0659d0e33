use Rattle.std.proofs.Common.{◌≡◌, ◌++◌, take}
use Rattle.std.specs.List.{flat_map}
use Rattle.it_check.specs.FindingLine.{line_of}
use Rattle.it_check.proofs.finding_lines.push_each.Given as goal

abbrev pub invariant-loop-finding : goal.invariant-loop-finding
invariant-loop-finding l =
    l.text.items ≡ l.fn.text.items ++ flat_map line_of (take l.finding-index l.found)
