use Rattle.std.proofs.Common.{◌≡◌, ◌≤◌, drop, length}
use Rattle.it_rules.specs.Item.{links_of, recorded_of}
use Rattle.it_ties.specs.inside.Marking.{AreTied}
use Rattle.it_ties.proofs.marks.tied_marks.Given as goal

-- the marks are those of the rules that are not left
abbrev pub invariant-loop-left : goal.invariant-loop-left
invariant-loop-left l = record {
  within : l.left ≤ length l.rules;
  lengths : length l.tied.items ≡ length l.paths;
  tied : AreTied l.tying.steps.now (drop l.left l.rules) (recorded_of l.tying.item.now)
      (links_of l.tying.links.now) l.paths l.tied.items;
}

abbrev pub decreases-loop-left : goal.decreases-loop-left
decreases-loop-left l = l.left
