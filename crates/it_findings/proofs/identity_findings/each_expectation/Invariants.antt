use Rattle.std.proofs.Common.{take}
use Rattle.it_findings.specs.Joined.{Joined}
use Rattle.it_findings.specs.IdentityFindings.{ExpectationKeyFindings}
use Rattle.it_findings.proofs.identity_findings.each_expectation.Given as goal

abbrev pub invariant-loop-place : goal.invariant-loop-place
invariant-loop-place l = Joined ExpectationKeyFindings (take l.place l.expectations) l.found.items
