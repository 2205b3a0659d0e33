-- What two digest sets say of one another, and whether two maps are equal, as answers.
use Rattle.std.proofs.Common.{◌≡◌, ◌≢◌, ℕ, List, Bool, true, false, ◌&&◌, ◌||◌, not, ◌⊎◌, inl, inr}
use Rattle.std.proofs.Common.{Option, Some, None, Decides, refl, sym, ap, true≢false, bytes_eq}
use Rattle.std.specs.Cmp.Lexicographic.{pointwise}
use Rattle.std.specs.FinMap.{entries, same_entries_map}
use Rattle.std.proofs.lemmas.Bool.Decides.{Decides-and, Decides-like, Decides-not, Decides-or}
use Rattle.std.proofs.lemmas.Option.{same_Some}
use Rattle.std.proofs.lemmas.Slice.Eq.{bytes_eq-Decides, slice_eq-Decides}
use Rattle.it_digest.specs.Artifacts.{ArtifactMap}
use Rattle.it_digest.specs.Compare.{Agree, Differ, StandsInBoth}
use Rattle.it_digest.specs.DigestSet.{Algorithm, in_sha256, in_sha384, in_sha512}
use Rattle.it_digest.specs.declared.compare.DigestSet.{DigestSet}
use Rattle.it_digest.proofs.ArtifactsLemmas.{digest_set_eq-Decides, same_entry, same_entry-Decides}
use Rattle.it_digest.specs.Equal.{same_set}

-- whether two values are there and pass a test
abbrev are_both : (List ℕ → List ℕ → Bool) → Option (List ℕ) → Option (List ℕ) → Bool
are_both test None q = false
are_both test (Some x) None = false
are_both test (Some x) (Some y) = test x y

-- whether the values under some algorithm pass a test
abbrev in_some : (List ℕ → List ℕ → Bool) → DigestSet → DigestSet → Bool
in_some test a b = are_both test a.sha256 b.sha256
    || (are_both test a.sha384 b.sha384 || are_both test a.sha512 b.sha512)

-- decides `Differ`
unfoldable pub is_difference : DigestSet → DigestSet → Bool
is_difference a b = in_some (λ x y. not (bytes_eq x y)) a b

-- decides `Agree`
unfoldable pub is_agreement : DigestSet → DigestSet → Bool
is_agreement a b = in_some (λ x y. true) a b && not (is_difference a b)

-- decides whether two maps are equal
unfoldable pub is_same_map : ArtifactMap → ArtifactMap → Bool
is_same_map m n = pointwise (same_entry same_set) (entries m) (entries n)

module _ (test : List ℕ → List ℕ → Bool) (P : List ℕ → List ℕ → Type 0) (each : (x y : List ℕ)
    → Decides (test x y) (P x y)) where
  are_both-Decides : (p q : Option (List ℕ))
      → Decides (are_both test p q) ((x : List ℕ) × (y : List ℕ) × (p ≡ Some x) × (q ≡ Some y)
      × P x y)
  are_both-Decides None q = (λ e. absurd (true≢false (sym e)), λ h. let e = h.2 in cc)
  are_both-Decides (Some x) None = (λ e. absurd (true≢false (sym e)), λ h. let e = h.3 in cc)
  are_both-Decides (Some x) (Some y) =
      Decides-like (test x y) (λ h. (x, y, refl, refl, h))
      (λ h. let first = same_Some x h.0 h.2 in let second = same_Some y h.1 h.3 in
      rw (first, second) h.4)
      (each x y)

  in_some-Decides : (a b : DigestSet) → Decides (in_some test a b) ((h : Algorithm) × (x : List ℕ)
      × (y : List ℕ) × StandsInBoth a b h x y × P x y)
  in_some-Decides a b =
      Decides-like (in_some test a b)
      (λ h. elim h [
        | inl k ↦ (in_sha256, k.0, k.1, record { first = k.2; second = k.3 }, k.4)
        | inr (inl k) ↦ (in_sha384, k.0, k.1, record { first = k.2; second = k.3 }, k.4)
        | inr (inr k) ↦ (in_sha512, k.0, k.1, record { first = k.2; second = k.3 }, k.4)
      ])
      (λ k. by_algorithm k.0 k.1 k.2 k.3 k.4)
      (Decides-or (are_both test a.sha256 b.sha256) (are_both test a.sha384 b.sha384
      || are_both test a.sha512 b.sha512) (are_both-Decides a.sha256 b.sha256)
      (Decides-or (are_both test a.sha384 b.sha384) (are_both test a.sha512 b.sha512)
      (are_both-Decides a.sha384 b.sha384) (are_both-Decides a.sha512 b.sha512)))
    where
      by_algorithm : (h : Algorithm) (x y : List ℕ) → StandsInBoth a b h x y → P x y
          → ((x : List ℕ) × (y : List ℕ) × (a.sha256 ≡ Some x) × (b.sha256 ≡ Some y) × P x y)
          ⊎ (((x : List ℕ) × (y : List ℕ) × (a.sha384 ≡ Some x) × (b.sha384 ≡ Some y) × P x y)
          ⊎ ((x : List ℕ) × (y : List ℕ) × (a.sha512 ≡ Some x) × (b.sha512 ≡ Some y) × P x y))
      by_algorithm in_sha256 x y s p = inl (x, y, s.first, s.second, p)
      by_algorithm in_sha384 x y s p = inr (inl (x, y, s.first, s.second, p))
      by_algorithm in_sha512 x y s p = inr (inr (x, y, s.first, s.second, p))

pub is_difference-Decides : (a b : DigestSet) → Decides (is_difference a b) (Differ a b)
unfolding is_difference
is_difference-Decides a b =
    Decides-like (is_difference a b)
    (λ h. record { algorithm = h.0; in_a = h.1; in_b = h.2; in_both = h.3; unequal = h.4 })
    (λ d. (d.algorithm, d.in_a, d.in_b, d.in_both, d.unequal))
    (in_some-Decides (λ x y. not (bytes_eq x y)) (λ x y. x ≢ y)
    (λ x y. Decides-not (bytes_eq x y) (bytes_eq-Decides x y)) a b)

pub is_agreement-Decides : (a b : DigestSet) → Decides (is_agreement a b) (Agree a b)
unfolding is_agreement
is_agreement-Decides a b =
    Decides-like (is_agreement a b)
    (λ h. record {
      algorithm = h.0.0;
      in_a = h.0.1;
      in_b = h.0.2;
      in_both = h.0.3;
      no_difference = h.1;
    })
    (λ d. ((d.algorithm, d.in_a, d.in_b, d.in_both, tt), d.no_difference))
    (Decides-and (in_some (λ x y. true) a b) (not (is_difference a b))
    (in_some-Decides (λ x y. true) (λ x y. Unit {0}) (λ x y. (λ _. tt, λ _. refl)) a b)
    (Decides-not (is_difference a b) (is_difference-Decides a b)))

pub is_same_map-Decides : (m n : ArtifactMap) → Decides (is_same_map m n) (m ≡ n)
unfolding is_same_map
is_same_map-Decides m n =
    Decides-like (is_same_map m n) (same_entries_map m n) (ap entries)
    (slice_eq-Decides (same_entry-Decides same_set digest_set_eq-Decides) (entries m) (entries n)
    (is_same_map m n) refl)
