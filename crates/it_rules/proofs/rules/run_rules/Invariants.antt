use Rattle.std.proofs.Common.{◌≡◌, length}
use Rattle.it_rules.specs.Item.{links_of, recorded_of}
use Rattle.it_rules.specs.Marks.{IsLeft}
use Rattle.it_rules.proofs.Running.{Running}
use Rattle.it_rules.proofs.rules.run_rules.Given as goal

abbrev pub invariant-loop-index : goal.invariant-loop-index
invariant-loop-index l = record {
  running : Running l.rules l.fn.side (recorded_of l.item) (links_of l.links)
      (IsLeft l.paths.items l.marks.items) l.index;
  lengths : length l.marks.items ≡ length l.paths.items;
}
