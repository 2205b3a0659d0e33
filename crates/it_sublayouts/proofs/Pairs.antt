-- One sublayout more among those that were listed.
use Rattle.std.proofs.Common.{◌≡◌, ◌∙◌, ◌↔◌, ◌⊎◌, ℕ, Bool, true, false, List, [], ◌∷◌, Ordering}
use Rattle.std.proofs.Common.{Less, Equal, Greater, IsTrue, String, bytes_eq, string_bytes, string_cmp}
use Rattle.std.proofs.Common.{inl, inr, map, refl, sym, ap, subst, ⊎_elim}
use Rattle.std.specs.BTreeSet.{BTreeSet, Updates}
use Rattle.std.specs.Cmp.{IsEquivalence, IsTotalOrder, eq_by_cmp_equiv}
use Rattle.std.specs.Cmp.Lexicographic.{lists_ties, lists_total, pointwise, slice_cmp}
use Rattle.std.specs.List.{list_any}
use Rattle.std.specs.Ordering.{eq_by_cmp, is_eq, nat_cmp, ordering_then}
use Rattle.std.specs.Set.{KeepsOthers}
use Rattle.std.specs.declared.alloc.Global.{Global}
use Rattle.std.specs.declared.vec.Vec.{Vec}
use Rattle.std.proofs.lemmas.Cmp.{nat_list_cmp_total, on_total, then_total}
use Rattle.std.proofs.lemmas.Map.Text.{is_eq-slice_cmp}
use Rattle.std.proofs.lemmas.Slice.Eq.{bytes_eq-Decides, slice_eq-Decides}

-- ---- the names of folders, one in another, with a payload
abbrev Pair : Type 0
Pair = List (List ℕ) × List ℕ

abbrev names_cmp : List (List ℕ) → List (List ℕ) → Ordering
names_cmp = slice_cmp (slice_cmp nat_cmp)

abbrev pair_cmp : Pair → Pair → Ordering
pair_cmp x y = ordering_then (names_cmp x.0 y.0) (slice_cmp nat_cmp x.1 y.1)

abbrev same_pair : Pair → Pair → Bool
same_pair = eq_by_cmp pair_cmp

pair_total : IsTotalOrder pair_cmp
pair_total =
    then_total (on_total (λ p. p.0) (lists_total nat_list_cmp_total))
    (on_total (λ p. p.1) nat_list_cmp_total)

laws : IsEquivalence same_pair
laws = eq_by_cmp_equiv pair_total

both_equal : (a b : Ordering) → is_eq (ordering_then a b) ≡ true → (is_eq a ≡ true) × (is_eq b ≡ true)
both_equal Less b h = cc
both_equal Equal b h = (refl, h)
both_equal Greater b h = cc

-- pairs that compare equal are one
one_pair : (x y : Pair) → same_pair x y ≡ true → (x.0 ≡ y.0) × (x.1 ≡ y.1)
one_pair x y h =
    let both = both_equal (names_cmp x.0 y.0) (slice_cmp nat_cmp x.1 y.1) h in
    let names = lists_ties (slice_cmp nat_cmp) (λ a b. sym (is_eq-slice_cmp a b)) x.0 y.0 in (
      (slice_eq-Decides bytes_eq-Decides x.0 y.0 (pointwise bytes_eq x.0 y.0) refl).0
          (names ∙ both.0),
      (bytes_eq-Decides x.1 y.1).0 (sym (is_eq-slice_cmp x.1 y.1) ∙ both.1),
    )

-- ---- one pair more
abbrev pub Key : Type 0
Key = Vec (String Global) Global × Vec ℕ Global

abbrev pair_of : Key → Pair
pair_of key = (map string_bytes key.0.items, key.1.items)

abbrev key_cmp : Key → Key → Ordering
key_cmp x y =
    ordering_then (slice_cmp string_cmp x.0.items y.0.items) (slice_cmp nat_cmp x.1.items y.1.items)

names_alike : (xs ys : List (String Global))
    → slice_cmp string_cmp xs ys ≡ names_cmp (map string_bytes xs) (map string_bytes ys)
names_alike [] [] = refl
names_alike [] (y ∷ ys) = refl
names_alike (x ∷ xs) [] = refl
names_alike (x ∷ xs) (y ∷ ys) = ap (ordering_then (string_cmp x y)) (names_alike xs ys)

pub keys_alike : (x y : Key) → key_cmp x y ≡ pair_cmp (pair_of x) (pair_of y)
keys_alike x y =
    ap (λ o. ordering_then o (slice_cmp nat_cmp x.1.items y.1.items))
    (names_alike x.0.items y.0.items)

abbrev has : BTreeSet Key → Pair → Bool
has pairs at = list_any (λ key. same_pair at (pair_of key)) pairs.keys

module _ (key : Key) (old new : BTreeSet Key) (updates : Updates key_cmp old new key true) where
  -- another pair is there if it was there
  others : (at : Pair) → same_pair (pair_of key) at ≡ false → has new at ≡ has old at
  unfolding KeepsOthers
  others at other =
      updates.3 (λ k. same_pair at (pair_of k))
      (λ x y here. laws.congr at (pair_of x) (pair_of y) here ∙ sym (ap is_eq (keys_alike x y)))
      (λ k here. laws.symm at (pair_of k)
      ∙ sym (laws.congr (pair_of key) (pair_of k) at (sym (ap is_eq (keys_alike key k)) ∙ here))
      ∙ other)

  here : has new (pair_of key) ≡ true
  here = sym (λ i. list_any (λ k. is_eq (keys_alike key k i)) new.keys) ∙ updates.1

  from_case : (at : Pair) (same : Bool) → same_pair (pair_of key) at ≡ same
      → IsTrue (has new at)
      ↔ (IsTrue (has old at) ⊎ (((pair_of key).0 ≡ at.0) × ((pair_of key).1 ≡ at.1)))
  from_case at true is =
      let one = one_pair (pair_of key) at is in (
        λ now. inr one,
        λ either. subst (λ f. has new (f, at.1) ≡ true) one.0
            (subst (λ p. has new ((pair_of key).0, p) ≡ true) one.1 here),
      )
  from_case at false is = (
    λ now. inl (sym (others at is) ∙ now),
    λ either. ⊎_elim (λ was. others at is ∙ was)
        (λ same. let no : same_pair (pair_of key) at ≡ false = is in
        let yes : same_pair (pair_of key) at ≡ true =
        subst (λ f. same_pair (pair_of key) (f, at.1) ≡ true) same.0
        (subst (λ p. same_pair (pair_of key) ((pair_of key).0, p) ≡ true) same.1
        (laws.refl (pair_of key))) in absurd (cc (no, yes)))
        either,
  )

  pub one_pair_more : (f : List (List ℕ)) (p : List ℕ)
      → IsTrue (has new (f, p))
      ↔ (IsTrue (has old (f, p)) ⊎ ((map string_bytes key.0.items ≡ f) × (key.1.items ≡ p)))
  one_pair_more f p = from_case (f, p) (same_pair (pair_of key) (f, p)) refl
