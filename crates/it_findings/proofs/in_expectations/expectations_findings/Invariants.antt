use Rattle.std.proofs.Common.{take}
use Rattle.it_findings.specs.ExpectationFindings.{ExpectationFindings}
use Rattle.it_findings.specs.Joined.{Joined}
use Rattle.it_findings.proofs.in_expectations.expectations_findings.Given as goal

abbrev pub invariant-loop-place : goal.invariant-loop-place
invariant-loop-place l =
    Joined ExpectationFindings (take l.place l.expectations) l.found.items
