-- Two lists, place by place.
use Rattle.std.proofs.Common.{◌≡◌, ℕ, zero, suc, ◌<◌, List, [], ◌∷◌, length, Contains, subst, arith}
use Rattle.std.specs.List.{AllZip, zip, slice_index_or}

module _ {A B : Type 0} (R : A → B → Type 0) where
  at_place : (xs : List A) (ys : List B) (x : A) (y : B) → AllZip R xs ys → (k : ℕ)
      → k < length (zip xs ys) → slice_index_or (zip xs ys) k (x, y) ≡ (x, y) → R x y
  at_place [] ys x y h k below e = absurd (omega arith)
  at_place (a ∷ xs) [] x y h k below e = absurd h
  at_place (a ∷ xs) (b ∷ ys) x y h zero below e = subst (λ (p : A × B). R p.0 p.1) e h.0
  at_place (a ∷ xs) (b ∷ ys) x y h (suc k) below e = at_place xs ys x y h.1 k (omega arith) e

  -- what holds place by place holds of what stands at one place
  pub of_zip : (xs : List A) (ys : List B) (x : A) (y : B) → AllZip R xs ys
      → Contains (zip xs ys) (x, y) → R x y
  of_zip xs ys x y h c = at_place xs ys x y h c.0 c.1 c.2

-- what holds place by place and implies something does so place by place
pub zip_weaker : {A B : Type 0} (R S : A → B → Type 0) → ((x : A) (y : B) → R x y → S x y)
    → (xs : List A) (ys : List B) → AllZip R xs ys → AllZip S xs ys
zip_weaker R S f [] [] h = tt
zip_weaker R S f [] (y ∷ ys) h = h
zip_weaker R S f (x ∷ xs) [] h = h
zip_weaker R S f (x ∷ xs) (y ∷ ys) h = (f x y h.0, zip_weaker R S f xs ys h.1)
