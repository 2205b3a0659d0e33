use Rattle.std.proofs.Common.{◌≡◌, ◌++◌, All, map}
use Rattle.std.specs.List.{AllZip}
use Rattle.std.specs.Vec.Iter.{into_iter_items}
use Rattle.it_disk.specs.Walks.{IsRecord}
use Rattle.it_disk.specs.inside.Entries.{IsEntryIn, shown}
use Rattle.it_disk.proofs.records.records_at.Given as goal

-- the records of the entries that were yielded; the others are of the folder too
abbrev pub invariant-loop-entry : goal.invariant-loop-entry
invariant-loop-entry g l = record {
  given : l.yielded ++ into_iter_items l.entry-iterator ≡ l.fn.entries.items;
  left : All (IsEntryIn l.folder 0) (into_iter_items l.entry-iterator);
  made : AllZip (IsRecord (g.T.Tree.seen l.tree) l.folder) (map shown l.yielded) l.records.items;
}
