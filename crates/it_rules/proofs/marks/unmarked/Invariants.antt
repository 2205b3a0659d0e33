use Rattle.std.proofs.Common.{map}
use Rattle.it_rules.proofs.Kept.{Kept}
use Rattle.it_rules.proofs.LentPaths.{bytes}
use Rattle.it_rules.proofs.Unmarked.{Unmarked}
use Rattle.it_rules.proofs.marks.unmarked.Given as goal

abbrev pub invariant-loop-place : goal.invariant-loop-place
invariant-loop-place l =
    Kept (map bytes l.paths) (Unmarked l.paths l.marks) (map bytes l.left.items) l.place
