-- Lists of pairs, side by side.
use Rattle.std.proofs.Common.{List, [], ◌∷◌, ◌++◌}
use Rattle.std.specs.List.{AllZip}

-- one more at the end of both lists
pub with_last : {A B : Type 0} (R : A → B → Type 0) (xs : List A) (ys : List B) (x : A) (y : B)
    → AllZip R xs ys → R x y → AllZip R (xs ++ x ∷ []) (ys ++ y ∷ [])
with_last R [] [] x y each last = (last, tt)
with_last R [] (b ∷ ys) x y each last = absurd each
with_last R (a ∷ xs) [] x y each last = absurd each
with_last R (a ∷ xs) (b ∷ ys) x y each last = (each.0, with_last R xs ys x y each.1 last)
