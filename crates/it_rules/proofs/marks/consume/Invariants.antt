use Rattle.std.proofs.Common.{◌≤◌, length}
use Rattle.it_rules.specs.Item.{links_of, recorded_of}
use Rattle.it_rules.specs.Rules.{Claims}
use Rattle.it_rules.proofs.Marking.{Marking}
use Rattle.it_rules.proofs.marks.consume.Given as goal

abbrev pub invariant-loop-place : goal.invariant-loop-place
invariant-loop-place l = record {
  within : l.end ≤ length l.paths;
  marking : Marking (Claims l.rule l.subject.side (recorded_of l.subject.item.now)
      (links_of l.subject.links.now)) l.paths
      l.initial.marks l.marks l.place;
}
