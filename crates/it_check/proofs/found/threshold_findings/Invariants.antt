use Rattle.std.proofs.Common.{◌≡◌, map, take}
use Rattle.it_findings.specs.declared.finding.Finding.TheVariants as findings
use Rattle.it_check.proofs.found.threshold_findings.Given as goal

abbrev pub invariant-loop-place : goal.invariant-loop-place
invariant-loop-place l =
    l.found.items ≡ map findings.NoThreshold (take l.place-index l.places)
