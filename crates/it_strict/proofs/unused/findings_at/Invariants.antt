use Rattle.std.proofs.Common.{◌≡◌, map, take}
use Rattle.it_findings.specs.declared.finding.Finding.TheVariants.{UnusedExpectation}
use Rattle.it_strict.proofs.unused.findings_at.Given as goal

-- the findings so far
abbrev pub invariant-loop-place : goal.invariant-loop-place
invariant-loop-place l = l.found.items ≡ map UnusedExpectation (take l.place-index l.places)
