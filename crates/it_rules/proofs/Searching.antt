-- Paths in order that are searched for what has no mark.
use Rattle.std.proofs.Common.{◌≡◌, ◌∙◌, ◌↔◌, inl, inr, ℕ, ◌+◌, ◌<◌, List, get_or, Bool, true, false}
use Rattle.std.proofs.Common.{not, Some, Err, Bor, IsTrue, Less, Equal, Greater, sym, ap, subst}
use Rattle.std.proofs.Common.{refl, arith}
use Rattle.std.specs.List.{slice_get}
use Rattle.std.specs.List.Sorted.{IsBinarySearchResult, IsNonDecreasingBy}
use Rattle.std.specs.Ordering.{is_lt, ordering_index, ordering_reverse}
use Rattle.std.proofs.lemmas.Bool.{cases_lt}
use Rattle.std.proofs.lemmas.Cmp.{nat_list_cmp_total, tied_itself}
use Rattle.std.proofs.lemmas.List.Sorted.{searchable_from_sorted}
use Rattle.std.proofs.lemmas.Option.{get_or_from_slice_get}
use Rattle.it_rules.specs.Paths.{ArePaths}
use Rattle.it_rules.specs.Marks.{IsLeft, is_marked}
use Rattle.it_rules.specs.Rules.{IsLeastMatch, IsMatch}
use Rattle.it_rules.proofs.Listed.{same_place, slice_get_within}
use Rattle.it_rules.proofs.PathOrder.{not_below_itself, not_both, path_cmp}

module _ (paths : List (Bor (List ℕ))) (marks : List Bool) where
  -- a pattern matches no path before a place that has no mark
  abbrev pub NoneBefore : List ℕ → ℕ → Type 0
  NoneBefore pattern place = (i : ℕ) (path : Bor (List ℕ)) → i < place
      → slice_get paths i ≡ Some path → is_marked marks i ≡ false → ¬ IsMatch pattern path.now

  pub none_more : (pattern : List ℕ) (place : ℕ) (path : Bor (List ℕ))
      → slice_get paths place ≡ Some path
      → (is_marked marks place ≡ false → ¬ IsMatch pattern path.now) → NoneBefore pattern place
      → NoneBefore pattern (place + 1)
  none_more pattern place path here none h i other l there u = elim (cases_lt i place) [
    | inl below ↦ h i other below there u
    | inr g ↦
        let same : place ≡ i = omega arith in
        let one : path ≡ other = same_place paths here there same in
        subst (λ p. ¬ IsMatch pattern p.now) one (none (ap (is_marked marks) same ∙ u))
  ]

module _ (paths : List (Bor (List ℕ))) (are : ArePaths paths) where
  below_later : (i j : ℕ) (p q : Bor (List ℕ)) → slice_get paths i ≡ Some p
      → slice_get paths j ≡ Some q → i < j → path_cmp p.now q.now ≡ Less
  below_later i j p q here there l =
      let first = get_or_from_slice_get paths i p p here in
      let second = get_or_from_slice_get paths j q p there in
      subst (λ x. path_cmp x.now q.now ≡ Less) first
      (subst (λ y. path_cmp (get_or paths i p).now y.now ≡ Less) second
      (are.in_order i j p l (slice_get_within paths j q there)))

  compares_up : (path : List ℕ) → IsNonDecreasingBy (λ p. ordering_index (path_cmp p.now path))
      paths
  compares_up path = searchable_from_sorted nat_list_cmp_total (λ p. p.now) paths path (λ k d l h.
      let below = are.in_order k (k + 1) d (omega arith) h in
      ap is_lt (nat_list_cmp_total.antisymm (get_or paths (k + 1) d).now (get_or paths k d).now
      ∙ ap ordering_reverse below))

  module _ (marks : List Bool) where
    pub least_found : (pattern : List ℕ) (place : ℕ) (path : Bor (List ℕ))
        → slice_get paths place ≡ Some path → is_marked marks place ≡ false
        → IsMatch pattern path.now → NoneBefore paths marks pattern place
        → IsLeastMatch pattern (IsLeft paths marks) path.now
    least_found pattern place path here u m none = record {
      is_free = record {
        listed = record { place = place; lent = path; stands = here; is_path = refl };
        unmarked =
            u;
      };
      is_match = m;
      is_least = λ other left matches less.
          let l = left.listed in
          elim (cases_lt l.place place) [
            | inl below ↦ none l.place l.lent below l.stands left.unmarked
                (subst (IsMatch pattern) (sym l.is_path) matches)
            | inr g ↦ elim (cases_lt place l.place) [
              | inl above ↦ not_both path.now other
                  (subst (λ p. path_cmp path.now p ≡ Less) l.is_path
                  (below_later place l.place path l.lent here l.stands above)) less
              | inr h ↦
                  let same : l.place ≡ place = omega arith in
                  let one : l.lent ≡ path = same_place paths l.stands here same in
                  not_below_itself other path.now (sym l.is_path ∙ ap (λ p. p.now) one) less
            ]
          ];
    }

    -- where a path stands, it is left just where there is no mark
    pub left_at : (path : List ℕ) (place : ℕ) (lent : Bor (List ℕ))
        → slice_get paths place ≡ Some lent → lent.now ≡ path → IsTrue (not (is_marked marks place))
        ↔ IsLeft paths marks path
    left_at path place lent here e = (
      λ u. record {
        listed = record { place = place; lent = lent; stands = here; is_path = e };
        unmarked = unmarked (is_marked marks place) u;
      },
      λ left.
          let l = left.listed in
          elim (cases_lt l.place place) [
            | inl below ↦ absurd (not_below_itself l.lent.now lent.now (l.is_path ∙ sym e)
                (below_later l.place place l.lent lent l.stands here below))
            | inr g ↦ elim (cases_lt place l.place) [
              | inl above ↦ absurd (not_below_itself lent.now l.lent.now (e ∙ sym l.is_path)
                  (below_later place l.place lent l.lent here l.stands above))
              | inr h ↦ let same : place ≡ l.place = omega arith in
                  ap not (ap (is_marked marks) same ∙ left.unmarked)
            ]
          ],
    )
      where
        unmarked : (b : Bool) → IsTrue (not b) → b ≡ false
        unmarked true h = cc h
        unmarked false h = refl

    pub not_left : (path : List ℕ) (place : ℕ) → IsBinarySearchResult {X = Bor (List ℕ)}
        (λ p. path_cmp p.now path) paths (Err place) → ¬ IsLeft paths marks path
    not_left path place h left =
        let l = left.listed in
        let parted = h (compares_up path) in
        let within = slice_get_within paths l.place l.lent l.stands in
        let same = get_or_from_slice_get paths l.place l.lent l.lent l.stands in
        let equal : path_cmp l.lent.now path ≡ Equal = ap (λ p. path_cmp p path) l.is_path
        ∙ tied_itself nat_list_cmp_total path in
        elim (cases_lt l.place place) [
          | inl below ↦ let less : path_cmp l.lent.now path ≡ Less =
              subst (λ p. path_cmp p.now path ≡ Less) same
              (parted.0 l.place l.lent (omega arith) below) in cc (less, equal)
          | inr g ↦ let greater : path_cmp l.lent.now path ≡ Greater =
              subst (λ p. path_cmp p.now path ≡ Greater) same (parted.1 l.place l.lent g within) in
              cc (greater, equal)
        ]
