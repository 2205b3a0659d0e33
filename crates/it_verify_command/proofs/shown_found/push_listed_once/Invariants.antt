use Rattle.std.proofs.Common.{◌≡◌, ◌++◌, map, take}
use Rattle.it_verify_command.specs.FoundOutput.{shown_once}
use Rattle.it_verify_command.proofs.shown_found.push_listed_once.Given as goal

-- the paths so far, as they are written
abbrev pub invariant-loop-once : goal.invariant-loop-once
invariant-loop-once l =
    l.findings.items ≡ l.fn.findings.items
    ++ map shown_once (take l.once-index l.listed)
