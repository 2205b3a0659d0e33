-- The free paths that a pattern matches.
use Rattle.std.proofs.Common.{◌≡◌, inl, inr, ℕ, ◌<◌, ◌≤◌, List, length}
use Rattle.std.proofs.Common.{All, Contains, Some, Less, true, false, arith, nat_cmp, refl}
use Rattle.std.specs.Cmp.Lexicographic.{slice_cmp}
use Rattle.std.specs.List.{slice_get}
use Rattle.std.proofs.lemmas.Bool.{cases_lt}
use Rattle.std.proofs.lemmas.List.Elements.{All-contains_itself, All-weaker}
use Rattle.it_rules.specs.Rules.{IsMatch}
use Rattle.it_rules.proofs.Kept.{Kept, in_order_at}
use Rattle.it_rules.proofs.Listed.{Contains-from_place, place_of, slice_get_within}
use Rattle.it_rules.proofs.PathOrder.{not_below_itself}
use Rattle.it_rule_notes.specs.Met.{AreForbiddenBy, AreLeftAt, IsForbidden, IsOther, Judging}

-- exactly the paths before a place that the pattern matches, in order
abbrev pub KeptBefore : List ℕ → List (List ℕ) → List (List ℕ) → ℕ → Type 0
KeptBefore pattern free = Kept free (λ place path. IsMatch pattern path)

module _ (judging : Judging) (index : ℕ) (pattern : List ℕ) (free : List (List ℕ))
    (left : AreLeftAt judging index free) where
  forbidden_at : (place : ℕ) (path : List ℕ) → slice_get free place ≡ Some path
      → IsMatch pattern path → IsForbidden judging index pattern path
  forbidden_at place path here is_match = record {
    is_left = (left.exact path).0 (Contains-from_place free place path here);
    is_match = is_match;
  }

  module _ (kept : List (List ℕ)) (place : ℕ) (h : KeptBefore pattern free kept place) where
    each_forbidden : All (IsForbidden judging index pattern) kept
    each_forbidden =
        All-weaker (Contains kept) (IsForbidden judging index pattern)
        (λ path within. let from = h.each path within in
        forbidden_at from.place path from.stands from.is_in) kept (All-contains_itself kept)

    is_kept : (path : List ℕ) (at : ℕ) → slice_get free at ≡ Some path → at < place
        → IsMatch pattern path → Contains kept path
    is_kept path at here below is_match = h.whole path (record {
      place = at;
      before = below;
      stands = here;
      is_in = is_match;
    })

    comes_first : (other : IsOther judging index pattern kept)
        → All (λ path. slice_cmp nat_cmp path other.path ≡ Less) kept
    comes_first other =
        let at = place_of free other.path ((left.exact other.path).1 other.forbidden.is_left) in
        let past : place ≤ at.0 = elim (cases_lt at.0 place) [
          | inl below ↦ absurd (other.is_other (is_kept other.path at.0 at.1 below
              other.forbidden.is_match))
          | inr g ↦ g
        ] in
        All-weaker (Contains kept) (λ path. slice_cmp nat_cmp path other.path ≡ Less)
        (λ path within. let from = h.each path within in
        let before : from.place < at.0 = omega (arith, from.before) in
        in_order_at free (λ i p. IsMatch pattern p) left.in_order from.place at.0 path other.path
        from.stands at.1 before) kept (All-contains_itself kept)

    -- one more that is forbidden, after ten
    pub some_left : (path : List ℕ) → slice_get free place ≡ Some path → IsMatch pattern path
        → length kept ≡ 10
        → AreForbiddenBy judging index pattern (record { paths = kept; others = true })
    some_left path here is_match ten = record {
      in_order = h.in_order;
      each = each_forbidden;
      come_first = comes_first;
      others = (
        ten,
        record {
          path = path;
          forbidden = forbidden_at place path here is_match;
          is_other = λ within. let from = h.each path within in
              not_below_itself path path refl
              (in_order_at free (λ i p. IsMatch pattern p) left.in_order from.place place path path
              from.stands here from.before);
        },
      );
      no_others = tt;
    }

    -- none is left
    pub none_left : length free ≤ place
        → AreForbiddenBy judging index pattern (record { paths = kept; others = false })
    none_left past = record {
      in_order = h.in_order;
      each = each_forbidden;
      come_first = comes_first;
      others = tt;
      no_others = λ other.
          let at = place_of free other.path ((left.exact other.path).1 other.forbidden.is_left) in
          let inside = slice_get_within free at.0 other.path at.1 in
          other.is_other (is_kept other.path at.0 at.1 (omega arith) other.forbidden.is_match);
    }
