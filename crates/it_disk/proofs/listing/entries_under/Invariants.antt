use Rattle.std.proofs.Common.{◌≡◌, ◌++◌, map, string_bytes}
use Rattle.std.specs.List.{AllZip}
use Rattle.std.specs.Vec.Iter.{into_iter_items}
use Rattle.it_disk.specs.Walks.{IsListed}
use Rattle.it_disk.proofs.listing.entries_under.Given as goal

-- the entries of the names that were yielded
abbrev pub invariant-loop-name : goal.invariant-loop-name
invariant-loop-name g l = record {
  given : l.yielded ++ into_iter_items l.name-iterator ≡ l.fn.names.items;
  listed : AllZip (IsListed (g.T.Tree.seen l.tree) l.folder) (map string_bytes l.yielded)
      l.entries.items;
}
