use Rattle.std.proofs.Common.{◌≡◌, map, take}
use Rattle.it_findings.specs.declared.finding.Finding.TheVariants as findings
use Rattle.it_check.proofs.found.member_findings.Given as goal

abbrev pub invariant-loop-member : goal.invariant-loop-member
invariant-loop-member l = l.found.items ≡ map findings.Member (take l.member-index l.members)
