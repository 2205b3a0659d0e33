-- The bodies of sets, range by range.
use Rattle.std.proofs.Common.{◌≡◌, ◌≢◌, ℕ, ◌≤◌, ◌⊎◌, inl, inr, true, false, List, [], ◌∷◌}
use Rattle.std.proofs.Common.{length, drop, get_or, arith, cond, eqb, eq-eqb, refl}
use Rattle.std.proofs.Common.{true≢false, sym, Decides, MatchBool}
use Rattle.std.proofs.lemmas.Bool.Decides.{nat_tests, Decides-like, Decides-or}
use Rattle.it_glob.specs.Pattern.{InBody}
use Rattle.it_glob.specs.inside.FirstRange.{IsFirstRange}
use Rattle.it_glob.specs.inside.Ranges.{is_in_some, is_within, range_between, written_ranges}
use Rattle.it_glob.proofs.Tests.{within-Decides}

-- a body that begins with a range
pub from_range : (x : ℕ) (others : List ℕ) → 2 ≤ length others → get_or others 0 0 ≡ 45
    → IsFirstRange (x ∷ others) x (get_or others 1 0) (drop 2 others)
from_range x [] long dash = absurd (omega arith)
from_range x (y ∷ []) long dash = absurd (omega arith)
from_range x (y ∷ z ∷ rest) long dash =
    let e : eqb y 45 ≡ true = eq-eqb y 45 dash in
    record { splits = rw e refl; shorter = omega arith }

-- a body that begins with a character that stands for itself
pub from_character : (x : ℕ) (others : List ℕ) → (2 ≤ length others → get_or others 0 0 ≢ 45)
    → IsFirstRange (x ∷ others) x x others
from_character x [] single = record { splits = refl; shorter = omega arith }
from_character x (y ∷ []) single = record { splits = refl; shorter = omega arith }
from_character x (y ∷ z ∷ rest) single =
    let e : eqb y 45 ≡ false = let n = single (omega arith) in grind (arith, nat_tests) in
    record { splits = rw e refl; shorter = omega arith }

-- a character is itself just where it is from itself to itself
own-Decides : (c x : ℕ) → Decides (is_within c (range_between x x)) (c ≡ x)
own-Decides c x = Decides-like (is_within c (range_between x x)) (λ h. omega (arith, h.0, h.1))
    (λ e. (omega (arith, e), omega (arith, e))) (within-Decides c (range_between x x))

none-Decides : Decides false ⊥
none-Decides = (λ e. true≢false (sym e), λ h. absurd h)

last-Decides : (c x : ℕ) → Decides (is_in_some (range_between x x ∷ []) c) (c ≡ x)
last-Decides c x = Decides-like (is_in_some (range_between x x ∷ []) c)
    (λ h. elim h [ inl e ↦ e | inr n ↦ absurd n ]) inl
    (Decides-or (is_within c (range_between x x)) false (own-Decides c x) none-Decides)

-- the ranges of a body have the characters that are in it
pub written-Decides : (body : List ℕ) (c : ℕ)
    → Decides (is_in_some (written_ranges body) c) (InBody body c)
written-Decides [] c = none-Decides
written-Decides (x ∷ []) c = last-Decides c x
written-Decides (x ∷ y ∷ []) c = Decides-or (is_within c (range_between x x))
    (is_in_some (range_between y y ∷ []) c) (own-Decides c x) (last-Decides c y)
written-Decides (x ∷ y ∷ z ∷ rest) c =
    elim (eqb y 45) as (λ b. Decides
    (is_in_some (cond b (range_between x z ∷ written_ranges rest)
    (range_between x x ∷ written_ranges (y ∷ z ∷ rest))) c)
    (MatchBool b (((x ≤ c) × (c ≤ z)) ⊎ InBody rest c)
    ((c ≡ x) ⊎ InBody (y ∷ z ∷ rest) c))) [
      | true ↦ Decides-or (is_within c (range_between x z)) (is_in_some (written_ranges rest) c)
          (within-Decides c (range_between x z)) (written-Decides rest c)
      | false ↦ Decides-or (is_within c (range_between x x))
          (is_in_some (written_ranges (y ∷ z ∷ rest)) c) (own-Decides c x)
          (written-Decides (y ∷ z ∷ rest) c)
    ]
