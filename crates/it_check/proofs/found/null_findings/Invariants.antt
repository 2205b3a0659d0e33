use Rattle.std.proofs.Common.{◌≡◌, map, take}
use Rattle.it_findings.specs.declared.finding.Finding.TheVariants as findings
use Rattle.it_check.proofs.found.null_findings.Given as goal

abbrev pub invariant-loop-key : goal.invariant-loop-key
invariant-loop-key l = l.found.items ≡ map findings.NullKey (take l.key-index l.nulls)
