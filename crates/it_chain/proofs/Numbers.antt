-- The number of different keys.
use Rattle.std.proofs.Common.{◌≡◌, ◌↔◌, ℕ, ◌≤◌, List, [], ◌∷◌, length, true, nat_eq, Contains}
use Rattle.std.proofs.Common.{Decides, refl, ap, sym, subst, arith}
use Rattle.std.specs.List.{list_any}
use Rattle.std.specs.Set.{distinct_count, unique_keys}
use Rattle.std.specs.Cmp.{IsEquivalence, and_equiv, nat_eq_equiv, on_equiv}
use Rattle.std.proofs.lemmas.Map.Made.{length-le_from_is_member}
use Rattle.std.proofs.lemmas.List.Elements.{Contains-get_or}
use Rattle.std.proofs.lemmas.List.Folds.{Any-from_list_any}
use Rattle.std.proofs.lemmas.Map.Views.{list_any-from_Contains}
use Rattle.std.proofs.lemmas.Bool.Decides.{Decides-and, Decides-eqb, Decides-like}
use Rattle.it_dsse.specs.Panel.{KeyNumber}
use Rattle.it_docs.specs.declared.layout.Layout.{Layout}
use Rattle.it_docs.specs.declared.step.Step.{Step}
use Rattle.it_chain.specs.Contents.{Contents}
use Rattle.it_chain.specs.CountedBodies.{Setting}
use Rattle.it_chain.specs.Threshold.{Found, KeyCounts, same_key}
use Rattle.it_chain.proofs.Uniques.{in_unique, of_unique, unique_distinct}

pub same_key-Decides : (a b : KeyNumber) → Decides (same_key a b) (a ≡ b)
same_key-Decides a b =
    Decides-like (same_key a b) (λ h i. (h.0 i, h.1 i))
    (λ e. (ap (λ (k : KeyNumber). k.0) e, ap (λ (k : KeyNumber). k.1) e))
    (Decides-and (nat_eq a.0 b.0) (nat_eq a.1 b.1) (Decides-eqb a.0 b.0) (Decides-eqb a.1 b.1))

pub same_key_equiv : IsEquivalence same_key
same_key_equiv = and_equiv (on_equiv (λ (k : KeyNumber). k.0) nat_eq_equiv)
    (on_equiv (λ (k : KeyNumber). k.1) nat_eq_equiv)

pub member_of : (xs ys : List KeyNumber) → ((k : KeyNumber) → Contains xs k → Contains ys k)
    → (q : KeyNumber) → list_any (same_key q) xs ≡ true → list_any (same_key q) ys ≡ true
member_of xs ys h q e =
    let a = Any-from_list_any (same_key q) xs e in
    let same : q ≡ a.1 = (same_key-Decides q a.1).0 a.4 in
    list_any-from_Contains same_key_equiv q ys
    (h q (subst (Contains xs) (sym same) (a.0, a.2, a.3)))

-- a list that is not empty contains something
some_member : (xs : List KeyNumber) → 1 ≤ length xs → (k : KeyNumber) × Contains xs k
some_member [] h = absurd (omega arith)
some_member (x ∷ xs) h = (x, Contains-get_or (x ∷ xs) 0 x (omega arith))

module _ (setting : Setting) (layout : Layout) (bundle : Contents) (step : Step) where
  pub found_one : (m n : ℕ) → Found setting layout bundle step m
      → Found setting layout bundle step n → m ≡ n
  found_one m n a b =
      let le : length a.keys ≤ length b.keys = length-le_from_is_member same_key_equiv a.keys b.keys
      a.once (member_of a.keys b.keys (λ k h. (b.are_those k).1 ((a.are_those k).0 h))) in
      let ge : length b.keys ≤ length a.keys = length-le_from_is_member same_key_equiv b.keys a.keys
      b.once (member_of b.keys a.keys (λ k h. (a.are_those k).1 ((b.are_those k).0 h))) in
      omega (arith, le, ge, a.number_is, b.number_is)

  -- a key counts, where some are found
  pub some_key : (n : ℕ) → Found setting layout bundle step n → 1 ≤ n → (k : KeyNumber)
      × KeyCounts setting layout bundle step k
  some_key n found h =
      let k = some_member found.keys (omega (arith, found.number_is)) in
      (k.0, (found.are_those k.0).0 k.1)

  -- the number of different keys of a list that has the keys which count
  pub found_of : (xs : List KeyNumber)
      → ((k : KeyNumber) → Contains xs k ↔ KeyCounts setting layout bundle step k)
      → Found setting layout bundle step (distinct_count same_key xs)
  found_of xs those = record {
    keys = unique_keys same_key xs;
    once = unique_distinct same_key same_key-Decides xs;
    are_those = λ k. (
      λ c. (those k).0 (of_unique same_key same_key-Decides xs k c),
      λ h. in_unique same_key same_key-Decides xs k ((those k).1 h),
    );
    number_is = refl;
  }
