use Rattle.std.proofs.Common.{◌≡◌, ◌++◌, map}
use Rattle.std.specs.Vec.Iter.{into_iter_items}
use Rattle.it_findings.specs.declared.member_finding.MemberFinding.TheVariants as findings
use Rattle.it_findings.proofs.repeated.as_findings.Given as goal

-- the members so far, and the findings on them
abbrev pub invariant-loop-member : goal.invariant-loop-member
invariant-loop-member l = record {
  given : l.yielded ++ into_iter_items l.member-iterator ≡ l.fn.members.items;
  are : l.found.items ≡ map (findings.Repeated l.root) l.yielded;
}
