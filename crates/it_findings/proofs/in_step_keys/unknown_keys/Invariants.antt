use Rattle.std.proofs.Common.{take}
use Rattle.it_findings.specs.Joined.{Joined}
use Rattle.it_findings.specs.StepKeyFindings.{UnknownKeyFindings}
use Rattle.it_findings.proofs.in_step_keys.unknown_keys.Given as goal

abbrev pub invariant-loop-place : goal.invariant-loop-place
invariant-loop-place l =
    Joined (UnknownKeyFindings l.layout l.at) (take l.place l.ids) l.found.items
