use Rattle.std.proofs.Common.{◌≡◌, ◌↔◌, ℕ, List, length}
use Rattle.it_rules.specs.Item.{links_of, recorded_of}
use Rattle.it_rules.specs.Rules.{IsFree}
use Rattle.it_rules.specs.Marks.{IsLeft}
use Rattle.it_rules.proofs.free.free_paths.Given as goal

-- the unmarked paths are those that are free after the rules so far
abbrev pub invariant-loop-rule : goal.invariant-loop-rule
invariant-loop-rule l = record {
  free : (path : List ℕ) → IsLeft l.paths.items l.marks.items path
      ↔ IsFree l.rules l.fn.side (recorded_of l.item) (links_of l.links) l.rule-index path;
  lengths : length l.marks.items ≡ length l.paths.items;
}
