use Rattle.std.proofs.Common.{◌≡◌, ◌++◌, flat_map, take}
use Rattle.it_verify_command.specs.FullOutput.{shown_below}
use Rattle.it_verify_command.proofs.shown_findings.push_below.Given as goal

-- the findings so far, as they are written
abbrev pub invariant-loop-below : goal.invariant-loop-below
invariant-loop-below l =
    l.findings.items ≡ l.fn.findings.items
    ++ flat_map shown_below (take l.below-index l.found)
