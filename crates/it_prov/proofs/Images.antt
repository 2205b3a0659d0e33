-- The images of a list's elements.
use Rattle.std.proofs.Common.{◌≡◌, ◌∙◌, ◌<◌, ℕ, zero, suc, List, [], ◌∷◌, Some, Contains, length}
use Rattle.std.proofs.Common.{get_or, map, option_map, refl, ap, subst, arith}
use Rattle.std.specs.List.{slice_get}
use Rattle.std.proofs.lemmas.List.{get_or-map, length-map}
use Rattle.std.proofs.lemmas.Option.{slice_get-map, slice_get_read}

-- ---- what stands at a place
module _ {X Y : Type 0} (f : X → Y) (xs : List X) (i : ℕ) where
  pub within_images : (ys : List Y) → map f xs ≡ ys → i < length ys → i < length xs
  within_images ys are below =
      let same = ap length are in
      let long = length-map xs f in
      omega (arith, below, same, long)

  pub image_stands : (x : X) (ys : List Y) → map f xs ≡ ys → i < length xs → x ≡ get_or xs i x
      → slice_get ys i ≡ Some (f x)
  image_stands x ys are below here = subst (λ zs. slice_get zs i ≡ Some (f x)) are
      (slice_get-map f xs i ∙ ap (option_map f) (slice_get_read xs (length xs) i x refl below here))

-- ---- what is in the list
pub in_images : {X Y : Type 0} (f : X → Y) (xs : List X) (x : X) → Contains xs x
    → Contains (map f xs) (f x)
in_images f xs x c = (
  c.0,
  (let long = length-map xs f in omega (arith, c.1, long)),
  get_or-map f xs c.0 x (f x) c.1 ∙ ap f c.2,
)

pub of_images : {X Y : Type 0} (f : X → Y) (xs : List X) (i : ℕ) (y : Y) → i < length (map f xs)
    → get_or (map f xs) i y ≡ y → (x : X) × Contains xs x × (f x ≡ y)
of_images f [] i y below e = absurd (omega (arith, below))
of_images f (x ∷ xs) zero y below e = (x, (0, omega arith, refl), e)
of_images f (x ∷ xs) (suc i) y below e =
    let found = of_images f xs i y (omega (arith, below)) e in
    (found.0, (suc found.1.0, omega (arith, found.1.1), found.1.2), found.2)
