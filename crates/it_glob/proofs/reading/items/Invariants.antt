use Rattle.std.proofs.Common.{◌≡◌, ◌++◌, None, false, drop, length}
use Rattle.std.specs.List.{position}
use Rattle.it_glob.specs.Pattern.{items_after, is_close}
use Rattle.it_glob.proofs.reading.items.Given as goal

abbrev pub invariant-loop-first : goal.invariant-loop-first
invariant-loop-first l = record {
  read : l.items.items ++ items_after 0 l.rest ≡ items_after 0 l.characters;
  closed : l.may_close ≡ false → position is_close (drop 2 l.rest) ≡ None;
}

abbrev pub decreases-loop-first : goal.decreases-loop-first
decreases-loop-first l = length l.rest
