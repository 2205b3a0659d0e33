-- The ids that a step lists, sorted and looked up, are those of the layout's keys that it lists.
use Rattle.std.proofs.Common.{◌≡◌, ◌<◌, ◌+◌, ℕ, List, [], ◌∷◌, ◌++◌, map, filter, filter_map, take}
use Rattle.std.proofs.Common.{get_or, length, Bool, true, false, T, cond, Option, Some, None}
use Rattle.std.proofs.Common.{option_map, Bor, Less, nat_cmp, ⊎_elim, Contains, refl, sym, ap}
use Rattle.std.proofs.Common.{subst, append-nil, ◌∙◌, ◌↔◌}
use Rattle.std.specs.Cmp.Lexicographic.{slice_cmp}
use Rattle.std.specs.FinMap.{entries, entries_sorted, get, is_sorted}
use Rattle.std.specs.List.{AllByRecursion, cons_option}
use Rattle.std.specs.List.Sorted.{IsStrictlySortedBy}
use Rattle.std.proofs.lemmas.List.{map-append, take_more}
use Rattle.std.proofs.lemmas.List.Elements.{filter_map-append}
use Rattle.std.proofs.lemmas.Map.Made.{is_member-Decides}
use Rattle.std.proofs.lemmas.Option.{same_Some}
use Rattle.std.proofs.lemmas.Slice.Eq.{bytes_eq-Decides}
use Rattle.it_dsse.specs.declared.key_object.KeyObject.{KeyObject}
use Rattle.it_base.specs.Table.{Named}
use Rattle.it_docs.specs.declared.layout.Layout.{Layout}
use Rattle.it_docs.specs.declared.step.Step.{Step}
use Rattle.it_chain.specs.Answer.{signers}
use Rattle.it_chain.specs.First.{IsBefore}
use Rattle.it_chain.specs.Signers.{entry_of}
use Rattle.it_chain.specs.inside.Signers.{AreIds}
use Rattle.it_chain.specs.declared.signers.Signer.{Signer}
use Rattle.it_chain.proofs.Entries.{entry_known, first_below, known_entry, order}
use Rattle.it_chain.proofs.Members.{in_cases, in_filter, in_filter_map, in_head, in_none, in_tail}
use Rattle.it_chain.proofs.Members.{of_filter, of_filter_map}
use Rattle.it_chain.proofs.Orders.{one_before}
use Rattle.it_chain.proofs.Records.{is_listed}

-- ---- lists whose ids rise
module _ {X : Type 0} where
  abbrev pub Rises : List (List ℕ × X) → Type 0
  Rises [] = Unit {0}
  Rises (e ∷ es) = ((f : List ℕ × X) → Contains es f → IsBefore e.0 f.0) × Rises es

  in_rest : (x y : List ℕ × X) (xs ys : List (List ℕ × X)) → x ≡ y
      → ((f : List ℕ × X) → Contains xs f → IsBefore x.0 f.0)
      → ((f : List ℕ × X) → Contains (x ∷ xs) f → Contains (y ∷ ys) f)
      → (f : List ℕ × X) → Contains xs f → Contains ys f
  in_rest x y xs ys same before there f c = ⊎_elim
      (λ head. let itself : IsBefore f.0 f.0 = subst (λ (e : List ℕ × X). IsBefore e.0 f.0)
      (same ∙ head) (before f c) in absurd (one_before f.0 f.0 itself itself))
      (λ later. later) (in_cases y ys f (there f (in_tail x xs f c)))

  -- such lists with the same elements are one
  one_list : (xs ys : List (List ℕ × X)) → Rises xs → Rises ys
      → ((f : List ℕ × X) → Contains xs f → Contains ys f)
      → ((f : List ℕ × X) → Contains ys f → Contains xs f) → xs ≡ ys
  one_list [] [] r s there back = refl
  one_list [] (y ∷ ys) r s there back = absurd (in_none y (back y (in_head y ys)))
  one_list (x ∷ xs) [] r s there back = absurd (in_none x (there x (in_head x xs)))
  one_list (x ∷ xs) (y ∷ ys) r s there back =
      let same : x ≡ y = ⊎_elim (λ head. sym head)
      (λ later. ⊎_elim (λ head. head)
      (λ below. absurd (one_before y.0 x.0 (s.0 x later) (r.0 y below)))
      (in_cases x xs y (back y (in_head y ys))))
      (in_cases y ys x (there x (in_head x xs))) in
      let rest : xs ≡ ys = one_list xs ys r.1 s.1 (in_rest x y xs ys same r.0 there)
      (in_rest y x ys xs (sym same) s.0 back) in
      (λ i. same i ∷ rest i)

  rises_cond : (e : List ℕ × X) (es fs : List (List ℕ × X)) (kept : Bool)
      → ((f : List ℕ × X) → Contains fs f → IsBefore e.0 f.0) → Rises fs
      → Rises (cond kept (e ∷ fs) fs)
  rises_cond e es fs true before rest = (before, rest)
  rises_cond e es fs false before rest = rest

  pub rises_filter : (p : List ℕ × X → Bool) (es : List (List ℕ × X)) → T (is_sorted order es)
      → Rises (filter p es)
  rises_filter p [] sorted = tt
  rises_filter p (e ∷ es) sorted =
      let parts = first_below e es sorted in
      rises_cond e es (filter p es) (p e) (λ f c. parts.0 f ((of_filter p es f c).1))
      (rises_filter p es parts.1)

  -- ---- ids that are looked up
  module _ (m : Named X) where
    -- an id with what the map has for it
    abbrev pub known : List ℕ → Option (List ℕ × X)
    known id = option_map (λ x. (id, x)) (get m id)

    of_known : (id : List ℕ) (found : Option X) (e : List ℕ × X) → get m id ≡ found
        → option_map (λ (x : X). (id, x)) found ≡ Some e → (id ≡ e.0) × (get m e.0 ≡ Some e.1)
    of_known id None e is some = cc
    of_known id (Some x) e is some =
        let pair : ◌≡◌ {A = List ℕ × X} (id, x) e = same_Some {A = List ℕ × X} (id, x) e some in (
          ap (λ (p : List ℕ × X). p.0) pair,
          ap (get m) (sym (ap (λ (p : List ℕ × X). p.0) pair))
              ∙ is ∙ ap (λ (p : List ℕ × X). Some p.1) pair,
        )

    rises_option : (id : List ℕ) (found : Option X) (fs : List (List ℕ × X))
        → ((f : List ℕ × X) → Contains fs f → IsBefore id f.0) → Rises fs
        → Rises (cons_option (option_map (λ (x : X). (id, x)) found) fs)
    rises_option id None fs before rest = rest
    rises_option id (Some x) fs before rest = (before, rest)

    below_each : (id : List ℕ) (ids : List (List ℕ))
        → AllByRecursion (λ other. slice_cmp nat_cmp id other ≡ Less) ids → (other : List ℕ)
        → Contains ids other → IsBefore id other
    below_each id [] all other c = absurd (in_none other c)
    below_each id (y ∷ ids) all other c = ⊎_elim (λ same. subst (IsBefore id) same all.0)
        (below_each id ids all.1 other) (in_cases y ids other c)

    rises_known : (ids : List (List ℕ)) → IsStrictlySortedBy (slice_cmp nat_cmp) ids
        → Rises (filter_map known ids)
    unfolding IsStrictlySortedBy
    rises_known [] sorted = tt
    rises_known (id ∷ ids) sorted =
        rises_option id (get m id) (filter_map known ids)
        (λ f c. let from = of_filter_map known ids f c in
        subst (IsBefore id) ((of_known from.0 (get m from.0) f refl from.1).0)
        (below_each id ids sorted.0 from.0 from.2))
        (rises_known ids sorted.1)

-- the signers are the ids that the step lists, each with the object that the layout has for it
pub is_signer : (layout : Layout) (step : Step) (id : List ℕ) (object : KeyObject)
    → Contains (signers layout step) (id, object)
    ↔ Contains step.pubkeys id × (get layout.keys id ≡ Some object)
is_signer layout step id object =
    let listed = is_member-Decides bytes_eq-Decides step.pubkeys id in (
      λ c. let from = of_filter (is_listed step) (entries layout.keys) (id, object) c in
          (listed.0 from.0, entry_known layout.keys (id, object) from.1),
      λ h. in_filter (is_listed step) (entries layout.keys) (id, object) (listed.1 h.0)
          (known_entry layout.keys id object h.1),
    )

-- the sorted ids with what the layout has for them are the step's signers
pub known_signers : (layout : Layout) (step : Step) (ids : List (List ℕ)) → AreIds step.pubkeys ids
    → filter_map (known layout.keys) ids ≡ signers layout step
known_signers layout step ids are =
    one_list (filter_map (known layout.keys) ids) (filter (is_listed step) (entries layout.keys))
    (rises_known layout.keys ids are.rises) (rises_filter (is_listed step) (entries layout.keys)
    (entries_sorted layout.keys))
    (λ f c.
    let from = of_filter_map (known layout.keys) ids f c in
    let is = of_known layout.keys from.0 (get layout.keys from.0) f refl from.1 in
    in_filter (is_listed step) (entries layout.keys) f
    ((is_member-Decides bytes_eq-Decides step.pubkeys f.0).1
    (subst (Contains step.pubkeys) is.0 ((are.same from.0).0 from.2)))
    (known_entry layout.keys f.0 f.1 is.1))
    (λ f c.
    let from = of_filter (is_listed step) (entries layout.keys) f c in
    let listed = (is_member-Decides bytes_eq-Decides step.pubkeys f.0).0 from.0 in
    in_filter_map (known layout.keys) ids f.0 f (ap (option_map (λ (x : KeyObject). (f.0, x)))
    (entry_known layout.keys f from.1)) ((are.same f.0).1 listed))

-- ---- the signers among the first ids
module _ (m : Named KeyObject) (ids : List (Bor (List ℕ))) (i : ℕ) (id : Bor (List ℕ))
    (below : i < length ids) (found : List Signer)
    (before : map entry_of found ≡ filter_map (known m)
    (map (λ (x : Bor (List ℕ)). x.now) (take i ids))) where
  next_known : filter_map (known m) (map (λ (x : Bor (List ℕ)). x.now) (take (i + 1) ids))
      ≡ map entry_of found ++ cons_option (known m (get_or ids i id).now) []
  next_known =
      ap (λ xs. filter_map (known m) (map (λ (x : Bor (List ℕ)). x.now) xs))
      (take_more ids i id below)
      ∙ ap (filter_map (known m)) (map-append (λ (x : Bor (List ℕ)). x.now) (take i ids)
      (get_or ids i id ∷ []))
      ∙ filter_map-append (known m) (map (λ (x : Bor (List ℕ)). x.now) (take i ids))
      ((get_or ids i id).now ∷ [])
      ∙ ap (λ es. es ++ cons_option (known m (get_or ids i id).now) []) (sym before)

  pub one_found : (signer : Signer) → signer.id.now ≡ (get_or ids i id).now
      → get m (get_or ids i id).now ≡ Some signer.object.now → map entry_of (found ++ signer ∷ [])
      ≡ filter_map (known m) (map (λ (x : Bor (List ℕ)). x.now) (take (i + 1) ids))
  one_found signer named is =
      map-append entry_of found (signer ∷ [])
      ∙ (λ j. map entry_of found ++ (named j, signer.object.now) ∷ [])
      ∙ ap (λ o. map entry_of found
      ++ cons_option (option_map (λ (x : KeyObject). ((get_or ids i id).now, x)) o) []) (sym is)
      ∙ sym next_known

  pub none_found : get m (get_or ids i id).now ≡ None → map entry_of found ≡ filter_map (known m)
      (map (λ (x : Bor (List ℕ)). x.now) (take (i + 1) ids))
  none_found is =
      sym (append-nil (map entry_of found))
      ∙ ap (λ o. map entry_of found
      ++ cons_option (option_map (λ (x : KeyObject). ((get_or ids i id).now, x)) o) []) (sym is)
      ∙ sym next_known
