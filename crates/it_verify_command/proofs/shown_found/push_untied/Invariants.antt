use Rattle.std.proofs.Common.{◌≡◌, ◌++◌, map, take}
use Rattle.it_verify_command.specs.FoundOutput.{shown_untied}
use Rattle.it_verify_command.proofs.shown_found.push_untied.Given as goal

-- the files so far, as they are written
abbrev pub invariant-loop-path : goal.invariant-loop-path
invariant-loop-path l =
    l.findings.items ≡ l.fn.findings.items
    ++ map shown_untied (take l.path-index l.untied)
