use Rattle.std.proofs.Common.{◌≡◌, ◌++◌, map, take}
use Rattle.it_verify_command.specs.FullOutput.{shown_finding}
use Rattle.it_verify_command.proofs.shown_findings.push_shown.Given as goal

-- the findings so far, as they are written
abbrev pub invariant-loop-finding : goal.invariant-loop-finding
invariant-loop-finding l =
    l.findings.items ≡ l.fn.findings.items
    ++ map (shown_finding l.at) (take l.finding-index l.found)
