use Rattle.std.proofs.Common.{◌≡◌, ℕ, List, ◌++◌}
use Rattle.std.specs.FinMap.{get}
use Rattle.it_base.specs.Table.{Named, Stands}
use Rattle.it_base.proofs.TableMade.{Holds}
use Rattle.it_borrowed.specs.inside.Last.{Entry, value_at}
use Rattle.it_borrowed.proofs.table.read_last.Given as goal

-- what was read so far and what is left, with the map of what was read
abbrev pub invariant-loop-name : goal.invariant-loop-name
invariant-loop-name g l = record {
  done : List Entry;
  read : Named _;
  all : l.fn.members.entries ≡ done ++ l.name-iterator;
  are : (name : List ℕ)
      → Stands g.V.FromBorrowed.is_of (value_at done name) (get read name);
  holds : Holds read l.named.items;
}
