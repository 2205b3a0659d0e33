use Rattle.std.proofs.Common.{◌≤◌, length}
use Rattle.it_rules.specs.Item.{links_of, recorded_of}
use Rattle.it_ties.proofs.Marking.{Marking}
use Rattle.it_ties.proofs.marks.mark.Given as goal

abbrev pub invariant-loop-place : goal.invariant-loop-place
invariant-loop-place l = record {
  within : l.end ≤ length l.paths;
  marking : Marking l.tying.steps.now (recorded_of l.tying.item.now) (links_of l.tying.links.now)
      l.paths l.rule l.initial.tied l.tied l.place;
}
