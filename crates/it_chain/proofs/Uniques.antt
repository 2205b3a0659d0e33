-- The keys of a list, each once, and pairs of texts as keys.
use Rattle.std.proofs.Common.{◌≡◌, ◌≢◌, ℕ, List, [], ◌∷◌, Bool, true, false, ◌&&◌, cond, bytes_eq}
use Rattle.std.proofs.Common.{Decides, Contains, ⊎_elim, refl, sym, ap, subst}
use Rattle.std.specs.List.{AllByRecursion, AllPairs, IsDistinct}
use Rattle.std.specs.Set.{is_member, unique_keys}
use Rattle.std.proofs.lemmas.Bool.Decides.{Decides-and, Decides-like}
use Rattle.std.proofs.lemmas.Map.Keys.{IsDistinct-cons}
use Rattle.std.proofs.lemmas.Map.Made.{AllPairs-from_IsDistinct, is_member-Decides}
use Rattle.std.proofs.lemmas.Slice.Eq.{bytes_eq-Decides}
use Rattle.it_chain.proofs.Members.{in_cases, in_head, in_tail}

-- ---- pairs of texts
-- whether two pairs are one
abbrev pub pair_eq : List ℕ × List ℕ → List ℕ × List ℕ → Bool
pair_eq a b = bytes_eq a.0 b.0 && bytes_eq a.1 b.1

pub pair_eq-Decides : (a b : List ℕ × List ℕ) → Decides (pair_eq a b) (a ≡ b)
pair_eq-Decides a b =
    Decides-like (pair_eq a b) (λ h i. (h.0 i, h.1 i))
    (λ e. (ap (λ (p : List ℕ × List ℕ). p.0) e, ap (λ (p : List ℕ × List ℕ). p.1) e))
    (Decides-and (bytes_eq a.0 b.0) (bytes_eq a.1 b.1) (bytes_eq-Decides a.0 b.0)
    (bytes_eq-Decides a.1 b.1))

-- ---- each key once
module _ {K : Type 0} (eq : K → K → Bool) (same : (a b : K) → Decides (eq a b) (a ≡ b)) where
  in_unique_at : (x : K) (xs : List K) (q : K) (held : Bool) → is_member eq xs x ≡ held
      → Contains (x ∷ xs) q → (Contains xs q → Contains (unique_keys eq xs) q)
      → Contains (cond held (unique_keys eq xs) (x ∷ unique_keys eq xs)) q
  in_unique_at x xs q true is c rest =
      ⊎_elim (λ head. rest (subst (Contains xs) head ((is_member-Decides same xs x).0 is))) rest
      (in_cases x xs q c)
  in_unique_at x xs q false is c rest =
      ⊎_elim (λ head. subst (Contains (x ∷ unique_keys eq xs)) head (in_head x (unique_keys eq xs)))
      (λ later. in_tail x (unique_keys eq xs) q (rest later)) (in_cases x xs q c)

  pub in_unique : (xs : List K) (q : K) → Contains xs q → Contains (unique_keys eq xs) q
  in_unique [] q c = c
  in_unique (x ∷ xs) q c = in_unique_at x xs q (is_member eq xs x) refl c (in_unique xs q)

  of_unique_at : (x : K) (xs : List K) (q : K) (held : Bool)
      → (Contains (unique_keys eq xs) q → Contains xs q)
      → Contains (cond held (unique_keys eq xs) (x ∷ unique_keys eq xs)) q → Contains (x ∷ xs) q
  of_unique_at x xs q true rest c = in_tail x xs q (rest c)
  of_unique_at x xs q false rest c = ⊎_elim (λ head. subst (Contains (x ∷ xs)) head (in_head x xs))
      (λ later. in_tail x xs q (rest later)) (in_cases x (unique_keys eq xs) q c)

  pub of_unique : (xs : List K) (q : K) → Contains (unique_keys eq xs) q → Contains xs q
  of_unique [] q c = c
  of_unique (x ∷ xs) q c = of_unique_at x xs q (is_member eq xs x) (of_unique xs q) c

  unlike : (x y : K) (xs : List K) (b : Bool) → eq x y ≡ b → is_member eq xs x ≡ false
      → Contains xs y → b ≡ false
  unlike x y xs true is out c = let among : is_member eq xs x ≡ true =
      (is_member-Decides same xs x).1 (subst (Contains xs) (sym ((same x y).0 is)) c) in cc
  unlike x y xs false is out c = refl

  pub all_unlike : (x : K) (xs : List K) → ((y : K) → Contains xs y → eq x y ≡ false)
      → AllByRecursion (λ y. eq x y ≡ false) xs
  all_unlike x [] each = tt
  all_unlike x (y ∷ ys) each =
      (each y (in_head y ys), all_unlike x ys (λ z c. each z (in_tail y ys z c)))

  distinct_at : (x : K) (xs : List K) (held : Bool) → is_member eq xs x ≡ held
      → IsDistinct eq (unique_keys eq xs)
      → IsDistinct eq (cond held (unique_keys eq xs) (x ∷ unique_keys eq xs))
  distinct_at x xs true is rest = rest
  distinct_at x xs false is rest = IsDistinct-cons eq x (unique_keys eq xs)
      (all_unlike x (unique_keys eq xs) (λ y c. unlike x y xs (eq x y) refl is (of_unique xs y c)))
      rest

  pub unique_distinct : (xs : List K) → IsDistinct eq (unique_keys eq xs)
  unfolding IsDistinct
  unique_distinct [] = tt
  unique_distinct (x ∷ xs) = distinct_at x xs (is_member eq xs x) refl (unique_distinct xs)

  pub unique_differ : (xs : List K) → AllPairs (λ a b. a ≢ b) (unique_keys eq xs)
  unique_differ xs = AllPairs-from_IsDistinct same (unique_keys eq xs) (unique_distinct xs)
