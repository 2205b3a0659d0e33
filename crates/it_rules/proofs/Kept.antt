-- Paths that are kept of a list in order.
use Rattle.std.proofs.Common.{◌≡◌, ◌∙◌, inl, inr, ℕ, ◌+◌, ◌<◌, List, [], ◌∷◌, ◌++◌, get_or}
use Rattle.std.proofs.Common.{Contains, Some, Less, arith, ap, subst, sym}
use Rattle.std.specs.List.{slice_get}
use Rattle.std.proofs.lemmas.Bool.{cases_lt}
use Rattle.std.proofs.lemmas.List.Elements.{Contains-append_left, Contains-get_or, Contains-push}
use Rattle.std.proofs.lemmas.List.Elements.{Contains-push_cases}
use Rattle.std.proofs.lemmas.List.Quantifiers.{all_pairs_push}
use Rattle.std.proofs.lemmas.Option.{get_or_from_slice_get}
use Rattle.it_rules.specs.Rules.{AreSorted}
use Rattle.it_rules.proofs.Listed.{same_place, slice_get_within}
use Rattle.it_rules.proofs.PathOrder.{path_cmp}

module _ (paths : List (List ℕ)) (IsIn : ℕ → List ℕ → Type 0) where
  -- a path at a place before the end, and it is to be kept
  pub record IsFrom (end : ℕ) (path : List ℕ) : Type 0 where
    pub place : ℕ
    pub before : place < end
    pub stands : slice_get paths place ≡ Some path
    pub is_in : IsIn place path

  -- exactly the paths before the place that are to be kept, in order
  pub record Kept (kept : List (List ℕ)) (place : ℕ) : Type 0 where
    pub in_order : AreSorted kept
    pub each : (path : List ℕ) → Contains kept path → IsFrom place path
    pub whole : (path : List ℕ) → IsFrom place path → Contains kept path

  pub kept_none : Kept [] 0
  kept_none = record {
    in_order = λ i j d l within. absurd (omega (arith, within));
    each = λ path within. absurd (omega (arith, within.1));
    whole = λ path from. absurd (omega (arith, from.before));
  }

  later : (place : ℕ) (path : List ℕ) → IsFrom place path → IsFrom (place + 1) path
  later place path from = record {
    place = from.place;
    before = omega (arith, from.before);
    stands = from.stands;
    is_in = from.is_in;
  }

  pub kept_skip : (kept : List (List ℕ)) (place : ℕ) (path : List ℕ)
      → slice_get paths place ≡ Some path → ¬ IsIn place path → Kept kept place
      → Kept kept (place + 1)
  kept_skip kept place path here out h = record {
    in_order = h.in_order;
    each = λ other within. later place other (h.each other within);
    whole = λ other from. elim (cases_lt from.place place) [
      | inl below ↦ h.whole other (record {
        place = from.place;
        before = below;
        stands = from.stands;
        is_in = from.is_in;
      })
      | inr g ↦
          let same : from.place ≡ place = omega (arith, from.before) in
          let one : other ≡ path = same_place paths from.stands here same in
          absurd (out (subst (IsIn place) one (subst (λ i. IsIn i other) same from.is_in)))
    ];
  }

  -- of two places the path of the first comes first
  pub in_order_at : AreSorted paths → (i j : ℕ) (a b : List ℕ) → slice_get paths i ≡ Some a
      → slice_get paths j ≡ Some b → i < j → path_cmp a b ≡ Less
  in_order_at sorted i j a b first second l =
      subst (λ p. path_cmp p b ≡ Less) (get_or_from_slice_get paths i a a first)
      (subst (λ p. path_cmp (get_or paths i a) p ≡ Less) (get_or_from_slice_get paths j b a second)
      (sorted i j a l (slice_get_within paths j b second)))

  pub kept_more : AreSorted paths → (kept : List (List ℕ)) (place : ℕ) (path : List ℕ)
      → slice_get paths place ≡ Some path → IsIn place path → Kept kept place
      → Kept (kept ++ path ∷ []) (place + 1)
  kept_more sorted kept place path here within h = record {
    in_order = all_pairs_push (λ a b. path_cmp a b ≡ Less) kept path h.in_order
        (λ k d l. let from = h.each (get_or kept k d) (Contains-get_or kept k d l) in
        in_order_at sorted from.place place (get_or kept k d) path from.stands here from.before);
    each = λ other inside. elim (Contains-push_cases kept path other inside) [
      | inl before ↦ later place other (h.each other before)
      | inr same ↦ record {
        place = place;
        before = omega arith;
        stands = here ∙ ap Some same;
        is_in = subst (IsIn place) same within;
      }
    ];
    whole = λ other from. elim (cases_lt from.place place) [
      | inl below ↦ Contains-append_left kept (path ∷ []) other (h.whole other (record {
        place = from.place;
        before = below;
        stands = from.stands;
        is_in = from.is_in;
      }))
      | inr g ↦
          let same : from.place ≡ place = omega (arith, from.before) in
          let one : path ≡ other = sym (same_place paths from.stands here same) in
          subst (Contains (kept ++ path ∷ [])) one (Contains-push kept path)
    ];
  }
