use Rattle.std.proofs.Common.{◌≡◌, ◌+◌, ◌++◌, ◌≤◌, All, map, string_bytes}
use Rattle.std.specs.Vec.{vec_len}
use Rattle.std.specs.Vec.Iter.{into_iter_items, into_iter_len}
use Rattle.it_disk.specs.Walks.{AreRead}
use Rattle.it_disk.specs.inside.Entries.{IsEntryIn, shown}
use Rattle.it_disk.proofs.entries.entries_of.Given as goal

-- the entries so far are what is read under the names that were yielded
abbrev pub invariant-loop-name : goal.invariant-loop-name
invariant-loop-name g l = record {
  given : l.yielded ++ into_iter_items l.name-iterator ≡ l.fn.names.items;
  read : AreRead (g.T.Tree.seen l.tree) l.folder l.depth (map string_bytes l.yielded)
      (map shown l.entries.items);
  each : All (IsEntryIn l.folder l.depth) l.entries.items;
  within : vec_len l.entries + into_iter_len l.name-iterator ≤ vec_len l.fn.names;
}
