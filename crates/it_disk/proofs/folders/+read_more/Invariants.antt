use Rattle.std.proofs.Common.{◌≡◌, ◌+◌, ◌++◌, ◌≤◌, All, map}
use Rattle.std.specs.Vec.Iter.{into_iter_items, into_iter_len}
use Rattle.it_disk.specs.LinksCount.{count_of}
use Rattle.it_disk.specs.Reading.{AreLimited}
use Rattle.it_disk.specs.Walks.{HaveLinks}
use Rattle.it_disk.specs.inside.Entries.{IsEntryIn, shown}
use Rattle.it_disk.specs.inside.SoFar.{IsCountedIn, IsWithin}
use Rattle.it_disk.proofs.folders.+read_more.Given as goal

-- the links so far are those of the entries that were yielded; the others are of the folder too;
-- what was added is limited, and counted in what was read; and each entry, also of those to come, is
-- one of the names
abbrev pub invariant-loop-entry : goal.invariant-loop-entry
invariant-loop-entry g l = record {
  given : l.yielded ++ into_iter_items l.entry-iterator
      ≡ into_iter_items l.initial.entry-iterator;
  left : All (IsEntryIn l.folder l.depth) (into_iter_items l.entry-iterator);
  have : HaveLinks (g.T.Tree.seen l.tree) l.limited l.depth l.folder (map shown l.yielded)
      l.links.bundle;
  limited : AreLimited l.limited l.links.bundle;
  counted : IsCountedIn l.links.read l.fn.read l.links.bundle;
  listed : l.fn.read.names + count_of l.links.bundle + into_iter_len l.entry-iterator
      ≤ l.links.read.names;
  within : IsWithin l.links.read;
}

abbrev pub decreases-read_more : goal.decreases-read_more
decreases-read_more g l = l.depth
