-- Lists that stand side by side.
use Rattle.std.proofs.Common.{◌≡◌, ◌<◌, ℕ, zero, suc, List, [], ◌∷◌, length, get_or, map}
use Rattle.std.proofs.Common.{Some, inl, inr, Contains, refl, sym, ap}
use Rattle.std.proofs.Common.{subst, arith}
use Rattle.std.specs.List.{AllZip, slice_get}
use Rattle.std.proofs.lemmas.Option.{same_Some, slice_get_cases}
use Rattle.it_base.proofs.Members.{in_cases, in_head, in_none, in_tail}

module _ {A B : Type 0} (R : A → B → Type 0) where
  pub zip_length : (xs : List A) (ys : List B) → AllZip R xs ys → length ys ≡ length xs
  zip_length [] [] h = refl
  zip_length [] (y ∷ ys) h = absurd h
  zip_length (x ∷ xs) [] h = absurd h
  zip_length (x ∷ xs) (y ∷ ys) h = ap suc (zip_length xs ys h.1)

  -- R holds of what was read at one place of both
  pub zip_read : (xs : List A) (ys : List B) (i : ℕ) (x : A) (y : B) → AllZip R xs ys
      → i < length xs → x ≡ get_or xs i x → y ≡ get_or ys i y → R x y
  zip_read [] [] i x y h below here there = absurd (omega (arith, below))
  zip_read [] (b ∷ ys) i x y h below here there = absurd h
  zip_read (a ∷ xs) [] i x y h below here there = absurd h
  zip_read (a ∷ xs) (b ∷ ys) zero x y h below here there =
      subst (λ z. R x z) (sym there) (subst (λ z. R z b) (sym here) h.0)
  zip_read (a ∷ xs) (b ∷ ys) (suc i) x y h below here there =
      zip_read xs ys i x y h.1 (omega (arith, below)) here there

  -- before what was read at a place of the second list stands one of which R holds
  pub zip_found : (xs : List A) (ys : List B) (i : ℕ) (y : B) → AllZip R xs ys → i < length ys
      → y ≡ get_or ys i y → (x : A) × (i < length xs) × (x ≡ get_or xs i x) × R x y
  zip_found xs ys i y h below here =
      let short : i < length xs = let same = zip_length xs ys h in omega (arith, same, below) in
      elim (slice_get_cases xs i).1 [
        | inl at ↦ (at.0, short, sym at.3, zip_read xs ys i at.0 y h short (sym at.3) here)
        | inr past ↦ absurd (omega (arith, past.0, short))
      ]

  -- beside what stands at a place of the first list stands one of which R holds
  pub zip_stands : (xs : List A) (ys : List B) (i : ℕ) (x : A) → AllZip R xs ys
      → slice_get xs i ≡ Some x → (y : B) × (slice_get ys i ≡ Some y) × R x y
  zip_stands [] ys i x h e = cc
  zip_stands (a ∷ xs) [] i x h e = absurd h
  zip_stands (a ∷ xs) (b ∷ ys) zero x h e = (b, refl, subst (λ z. R z b) (same_Some a x e) h.0)
  zip_stands (a ∷ xs) (b ∷ ys) (suc i) x h e = zip_stands xs ys i x h.1 e

  -- each element of one list has one beside it of which R holds
  pub zip_beside : (xs : List A) (ys : List B) (x : A) → AllZip R xs ys → Contains xs x
      → (y : B) × Contains ys y × R x y
  zip_beside [] ys x h c = absurd (in_none x c)
  zip_beside (a ∷ xs) [] x h c = absurd h
  zip_beside (a ∷ xs) (b ∷ ys) x h c = elim (in_cases a xs x c) [
    | inl same ↦ (b, in_head b ys, subst (λ z. R z b) same h.0)
    | inr later ↦ let y = zip_beside xs ys x h.1 later in (y.0, in_tail b ys y.0 y.1, y.2)
  ]

  pub zip_before : (xs : List A) (ys : List B) (y : B) → AllZip R xs ys → Contains ys y
      → (x : A) × Contains xs x × R x y
  zip_before xs [] y h c = absurd (in_none y c)
  zip_before [] (b ∷ ys) y h c = absurd h
  zip_before (a ∷ xs) (b ∷ ys) y h c = elim (in_cases b ys y c) [
    | inl same ↦ (a, in_head a xs, subst (λ z. R a z) same h.0)
    | inr later ↦ let x = zip_before xs ys y h.1 later in (x.0, in_tail a xs x.0 x.1, x.2)
  ]

-- where R holds side by side, and S wherever R does, S holds side by side: with the elements
-- themselves, and with their images
pub zip_each : {A B : Type 0} (R S : A → B → Type 0) → ((x : A) (y : B) → R x y → S x y)
    → (xs : List A) (ys : List B) → AllZip R xs ys → AllZip S xs ys
zip_each R S each [] [] h = tt
zip_each R S each [] (y ∷ ys) h = absurd h
zip_each R S each (x ∷ xs) [] h = absurd h
zip_each R S each (x ∷ xs) (y ∷ ys) h = (each x y h.0, zip_each R S each xs ys h.1)

pub zip_mapped : {A B C : Type 0} (R : A → B → Type 0) (S : A → C → Type 0) (f : B → C)
    → ((x : A) (y : B) → R x y → S x (f y)) → (xs : List A) (ys : List B) → AllZip R xs ys
    → AllZip S xs (map f ys)
zip_mapped R S f each [] [] h = tt
zip_mapped R S f each [] (y ∷ ys) h = absurd h
zip_mapped R S f each (x ∷ xs) [] h = absurd h
zip_mapped R S f each (x ∷ xs) (y ∷ ys) h =
    (each x y h.0, zip_mapped R S f each xs ys h.1)
