-- What holds of each element, and of what is shown of it.
use Rattle.std.proofs.Common.{List, [], ◌∷◌, All, map}
use Rattle.std.proofs.lemmas.List.Elements.{All-cons, All-head, All-nil, All-tail}

module _ {X Y : Type 0} (f : Y → X) (P : X → Type 0) (Q R : Y → Type 0)
    (both : (y : Y) → P (f y) → Q y → R y) where
  pub both_all : (ys : List Y) → All P (map f ys) → All Q ys → All R ys
  both_all [] shown own = All-nil R
  both_all (y ∷ ys) shown own =
      All-cons R y ys (both y (All-head P (f y) (map f ys) shown) (All-head Q y ys own))
      (both_all ys (All-tail P (f y) (map f ys) shown) (All-tail Q y ys own))
