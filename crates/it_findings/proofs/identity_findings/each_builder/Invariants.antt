use Rattle.std.proofs.Common.{take}
use Rattle.it_findings.specs.Joined.{Joined}
use Rattle.it_findings.specs.IdentityFindings.{BuilderKeyFindings}
use Rattle.it_findings.proofs.identity_findings.each_builder.Given as goal

abbrev pub invariant-loop-place : goal.invariant-loop-place
invariant-loop-place l = Joined (BuilderKeyFindings l.expectation) (take l.place l.builders) l.found.items
