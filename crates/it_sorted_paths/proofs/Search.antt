-- What a search among sorted paths finds.
use Rattle.std.proofs.Common.{◌≡◌, ◌≢◌, ◌∙◌, ℕ, List, All, Bor, Ordering, Equal, Greater, Less, ap, arith, false, inl, inr, sym, true}
use Rattle.std.specs.Cmp.Lexicographic.{slice_cmp}
use Rattle.std.specs.List.Sorted.{IsNonDecreasingBy, IsPartitionPoint, IsSortedByKey}
use Rattle.std.specs.Ordering.{is_eq, nat_cmp, ordering_index}
use Rattle.std.proofs.lemmas.Bool.{cases_lt}
use Rattle.std.proofs.lemmas.Cmp.{nat_list_cmp_total}
use Rattle.std.proofs.lemmas.List.Sorted.{searchable_from_sorted}
use Rattle.std.proofs.lemmas.Map.Text.{is_eq-slice_cmp}
use Rattle.std.proofs.lemmas.Slice.Eq.{bytes_eq-Decides}

abbrev pub path_cmp : List ℕ → List ℕ → Ordering
path_cmp = slice_cmp nat_cmp

-- paths are the same exactly where their order is equal
pub same_path : (p q : List ℕ) → path_cmp p q ≡ Equal → p ≡ q
same_path p q equal = (bytes_eq-Decides p q).0 (sym (is_eq-slice_cmp p q) ∙ ap is_eq equal)

ties : (p q : List ℕ) → p ≡ q → is_eq (path_cmp p q) ≡ true
ties p q same = is_eq-slice_cmp p q ∙ (bytes_eq-Decides p q).1 same

not_below : (p q : List ℕ) → path_cmp p q ≡ Less → p ≢ q
not_below p q less same =
    let no : false ≡ true = sym (ap is_eq less) ∙ ties p q same in cc

not_above : (p q : List ℕ) → path_cmp p q ≡ Greater → p ≢ q
not_above p q greater same =
    let no : false ≡ true = sym (ap is_eq greater) ∙ ties p q same in cc

-- where sorted paths are parted by a path, it is none of them
pub not_found : (paths : List (Bor (List ℕ))) (path : List ℕ) (place : ℕ)
    → (IsNonDecreasingBy (λ (y : Bor (List ℕ)). ordering_index (path_cmp y.now path)) paths
    → IsPartitionPoint (λ (y : Bor (List ℕ)). path_cmp y.now path ≡ Less)
    (λ (y : Bor (List ℕ)). path_cmp y.now path ≡ Greater) paths place)
    → IsSortedByKey (λ (y : Bor (List ℕ)). y.now) path_cmp paths
    → All (λ (y : Bor (List ℕ)). y.now ≢ path) paths
not_found paths path place parted sorted k d within =
    let point = parted (searchable_from_sorted nat_list_cmp_total (λ (y : Bor (List ℕ)). y.now) paths
    path sorted) in
    elim (cases_lt k place) [
      | inl less ↦ not_below _ path (point.0 k d (omega arith) less)
      | inr least ↦ not_above _ path (point.1 k d least within)
    ]
