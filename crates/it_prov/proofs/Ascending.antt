-- Numbers in ascending order, each once: those with the same elements are the same list.
use Rattle.std.proofs.Common.{◌≡◌, ◌↔◌, ◌==◌, ℕ, List, true, Contains, IsSorted, refl, subst, nat_cmp}
use Rattle.std.proofs.Common.{eqb}
use Rattle.std.specs.BTreeSet.{BTreeSet, contains}
use Rattle.std.specs.List.{dedup, list_any}
use Rattle.std.specs.List.Sorted.{IsPermutation, IsStrictlySortedBy}
use Rattle.std.proofs.lemmas.Bool.Decides.{Decides-eqb, same_from_decides}
use Rattle.std.proofs.lemmas.Cmp.{nat_cmp_total}
use Rattle.std.proofs.lemmas.List.Folds.{Any-from_list_any, list_any-from_Any}
use Rattle.std.proofs.lemmas.List.Kept.{Contains-dedup_nat, Contains-from_dedup}
use Rattle.std.proofs.lemmas.List.Sorted.{Contains-permutation, IsPermutation-sym}
use Rattle.std.proofs.lemmas.Map.Keys.{IsStrictlyIncreasing-dedup, sorted_from_strictly_increasing}
use Rattle.std.proofs.lemmas.Map.Lookups.{btree_set_from_contains, exact_unsigned}
use Rattle.std.proofs.lemmas.Map.Views.{btree_set_contains_iff}

pub is_in : (xs : List ℕ) (p : ℕ) → list_any (λ q. q == p) xs ≡ true → Contains xs p
is_in xs p h = let s = Any-from_list_any (λ q. q == p) xs h in
    subst (Contains xs) ((Decides-eqb s.1 p).0 s.4) (s.0, s.2, s.3)

pub in_is : (xs : List ℕ) (p : ℕ) → Contains xs p → list_any (λ q. q == p) xs ≡ true
in_is xs p c =
    list_any-from_Any (λ q. q == p) xs (c.0, p, c.1, c.2, (Decides-eqb p p).1 refl)

abbrev set_of : List ℕ → BTreeSet ℕ
set_of xs = record { keys = xs }

ascending_same : (xs ys : List ℕ) → IsStrictlySortedBy nat_cmp xs → IsStrictlySortedBy nat_cmp ys
    → ((p : ℕ) → Contains xs p ↔ Contains ys p) → xs ≡ ys
ascending_same xs ys h k same =
    btree_set_from_contains nat_cmp_total (set_of xs) (set_of ys) h k
    (λ q. let first = btree_set_contains_iff nat_cmp_total exact_unsigned (set_of xs) q in
    let second = btree_set_contains_iff nat_cmp_total exact_unsigned (set_of ys) q in
    same_from_decides (contains nat_cmp (set_of xs) q) (contains nat_cmp (set_of ys) q)
    (first.0, first.1) (λ e. (same q).1 (second.0 e), λ c. second.1 ((same q).0 c)))
    exact_unsigned

-- what sorting leaves without repeats is the list in order with the same elements
pub sorted_same : (xs sorted ys : List ℕ) → IsPermutation xs sorted → IsSorted nat_cmp sorted
    → IsStrictlySortedBy nat_cmp ys → ((p : ℕ) → Contains xs p ↔ Contains ys p)
    → dedup eqb sorted ≡ ys
sorted_same xs sorted ys moved ordered ascends same =
    ascending_same (dedup eqb sorted) ys
    (sorted_from_strictly_increasing (dedup eqb sorted) (IsStrictlyIncreasing-dedup sorted ordered))
    ascends (λ p. (
      λ c. (same p).0 (Contains-permutation sorted xs p (IsPermutation-sym xs sorted moved)
          (Contains-from_dedup eqb sorted p c)),
      λ c. Contains-dedup_nat sorted p (Contains-permutation xs sorted p moved ((same p).1 c)),
    ))
