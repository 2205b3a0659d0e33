-- A layout has one first failure at most: of one level with its sublayouts' given, and then of
-- every depth.
use Rattle.std.proofs.Common.{◌≡◌, ℕ, zero, suc, ◌<◌, ◌||◌, List, [], ◌∷◌, ◌++◌, map, flat_map, inl}
use Rattle.std.proofs.Common.{⊎_elim, Option, Some, None, Bool, true, false, Ordering, Less, Equal}
use Rattle.std.proofs.Common.{Greater, nat_cmp, is_some, is_eq, slice_get, refl, sym, ap, subst}
use Rattle.std.proofs.Common.{◌∙◌, arith}
use Rattle.std.specs.List.{list_any}
use Rattle.std.specs.Cmp.Lexicographic.{slice_cmp}
use Rattle.std.specs.FinMap.{keys, get, contains_key-keys, slice_cmp-IsAntisymmetric}
use Rattle.std.specs.FinMap.{nat_cmp-IsAntisymmetric}
use Rattle.std.specs.Ordering.{eq_by_cmp}
use Rattle.it_base.specs.Places.{NoneAt}
use Rattle.it_base.proofs.Firsts.{OneAt, OneFirst, one_append, one_flat_map, one_map, one_more}
use Rattle.it_base.proofs.Firsts.{one_none}
use Rattle.it_docs.specs.Layout.{LayoutOf}
use Rattle.it_docs.specs.declared.layout.Layout.{Layout}
use Rattle.it_docs.specs.declared.step.Step.{Step}
use Rattle.it_docs.specs.declared.rule.Rule.{Rule}
use Rattle.it_docs.specs.declared.rule.Rule.TheVariants.{Match, Create, Delete, Modify, Allow}
use Rattle.it_docs.specs.declared.rule.Rule.TheVariants.{Disallow, Require}
use Rattle.it_docs.specs.declared.rule.Side.{Side}
use Rattle.it_docs.specs.declared.rule.Side.TheVariants.{Materials, Products}
use Rattle.it_rules.specs.Item.{Recorded, Links}
use Rattle.it_rules.specs.Rules.{IsFree, IsFirstFault, FailsWith}
use Rattle.it_docs.proofs.Same.{layout_same}
use Rattle.it_chain.specs.Chain.{Chain, none_holds}
use Rattle.it_chain.specs.Contents.{Contents}
use Rattle.it_chain.specs.CountedBodies.{Setting}
use Rattle.it_chain.specs.First.{Failing, ChainPlace, at_expiry, at_id, at_threshold, at_records}
use Rattle.it_chain.specs.First.{at_rules, step_places, rule_places, HasTwo, SublayoutFails}
use Rattle.it_chain.specs.First.{IsLeastOther, StandsInChain, LevelFails, FirstChainFailure}
use Rattle.it_chain.specs.First.{too_deep, uninspected, here, under}
use Rattle.it_chain.specs.Level.{Holding, HasRecord, StepHolds}
use Rattle.it_chain.specs.StepRules.{recorded_in, links_in, rules_on}
use Rattle.it_chain.specs.Sublayouts.{folder_of}
use Rattle.it_chain.specs.declared.refusal.ChainFault.TheVariants.{TwoPayloads, Threshold, Disagree}
use Rattle.it_chain.specs.declared.refusal.ChainFault.TheVariants.{RuleFailed}
use Rattle.it_chain.specs.declared.refusal.ChainRefusal.{ChainRefusal}
use Rattle.it_chain.specs.declared.refusal.RuleItem.TheVariants.{Step as of_step}
use Rattle.it_chain.proofs.Excludes.{chain_one, none_one}
use Rattle.it_chain.proofs.Levels.{HoldsOneWay, record_one, step_one, steps_one}
use Rattle.it_chain.proofs.Numbers.{found_one}
use Rattle.it_chain.proofs.Orders.{neither_before, not_different}
use Rattle.it_chain.proofs.Zips.{of_zip}

-- ---- the first rule that fails
module _ (rules : List Rule) (side : Side) (item : Recorded) (links : Links) where
  path_one : (rule : Rule) (Free : List ℕ → Type 0) (p q : List ℕ) → FailsWith rule Free p
      → FailsWith rule Free q → p ≡ q
  path_one (Disallow pattern) Free p q h k =
      neither_before p q (λ less. k.is_least p h.is_free h.is_match less)
      (λ less. h.is_least q k.is_free k.is_match less)
  path_one (Require text) Free p q h k = h ∙ sym k
  path_one (Match pattern source linked target from) Free p q h k = absurd h
  path_one (Create pattern) Free p q h k = absurd h
  path_one (Delete pattern) Free p q h k = absurd h
  path_one (Modify pattern) Free p q h k = absurd h
  path_one (Allow pattern) Free p q h k = absurd h

  index_one : (i j : ℕ) (p q : List ℕ) → IsFirstFault rules side item links i p
      → IsFirstFault rules side item links j q → i ≡ j
  index_one i j p q h k =
      let up : ¬ (i < j) = λ less. h.fails (k.before_hold i less) in
      let down : ¬ (j < i) = λ less. k.fails (h.before_hold j less) in
      omega arith

  path_at : (i : ℕ) (o : Option Rule) → slice_get rules i ≡ o → (p q : List ℕ)
      → IsFirstFault rules side item links i p → IsFirstFault rules side item links i q → p ≡ q
  path_at i None e p q h k =
      absurd (h.fails (λ rule is. let no : None ≡ Some rule = sym e ∙ is in cc))
  path_at i (Some rule) e p q h k = path_one rule (IsFree rules side item links i) p q
      (h.path_is rule e) (k.path_is rule e)

  pub fault_one : (i j : ℕ) (p q : List ℕ) → IsFirstFault rules side item links i p
      → IsFirstFault rules side item links j q → (i ≡ j) × (p ≡ q)
  fault_one i j p q h k =
      let same : i ≡ j = index_one i j p q h k in (
        same,
        path_at i (slice_get rules i) refl p q h
            (subst (λ n. IsFirstFault rules side item links n q) (sym same) k),
      )

-- ---- an id of the map of keys
by_order : (At : ChainPlace → ChainRefusal → Type 0) (step : Step) (id x : List ℕ) (rest : Bool)
    (refusal : ChainRefusal) (o : Ordering) → slice_cmp nat_cmp id x ≡ o → (is_eq o || rest) ≡ true
    → ¬ At (at_id step x) refusal → (rest ≡ true → ¬ At (at_id step id) refusal)
    → ¬ At (at_id step id) refusal
by_order At step id x rest refusal Equal same h here later =
    subst (λ y. ¬ At (at_id step y) refusal)
    (sym (slice_cmp-IsAntisymmetric nat_cmp-IsAntisymmetric id x same)) here
by_order At step id x rest refusal Less same h here later = later h
by_order At step id x rest refusal Greater same h here later = later h

-- where nothing stands at any id's place, nothing stands at that of an id among them
key_listed : (At : ChainPlace → ChainRefusal → Type 0) (step : Step) (id : List ℕ)
    (ids : List (List ℕ)) → list_any (eq_by_cmp (slice_cmp nat_cmp) id) ids ≡ true
    → NoneAt At (map (at_id step) ids) → (refusal : ChainRefusal) → ¬ At (at_id step id) refusal
key_listed At step id [] e none refusal = let no : false ≡ true = e in cc
key_listed At step id (x ∷ ids) e none refusal =
    by_order At step id x (list_any (eq_by_cmp (slice_cmp nat_cmp) id) ids) refusal
    (slice_cmp nat_cmp id x) refl e (none.0 refusal)
    (λ h. key_listed At step id ids h none.1 refusal)

-- what fails fails in one way
abbrev pub FailsOneWay : Failing → Type 0
FailsOneWay fails = (layout : Layout) (bundle : Contents) (a b : ChainRefusal)
    → fails layout bundle a → fails layout bundle b → a ≡ b

module _ (sub : Holding) (fails : Failing) (one : HoldsOneWay sub) (fails_one : FailsOneWay fails)
    (setting : Setting) (layout : Layout) (bundle : Contents) where
  abbrev At : ChainPlace → ChainRefusal → Type 0
  At = StandsInChain sub fails setting layout bundle

  failing_one : (step : Step) (id : List ℕ) (a b : ChainRefusal)
      → SublayoutFails sub fails setting layout bundle step id a
      → SublayoutFails sub fails setting layout bundle step id b → a ≡ b
  failing_one step id a b h k =
      let payload : h.payload ≡ k.payload = h.one_body k.payload k.counted in
      let sublayout : h.sublayout ≡ k.sublayout = layout_same k.payload h.sublayout k.sublayout
      (subst (λ p. LayoutOf p h.sublayout) payload h.is_layout) k.is_layout in
      let inner : h.inner ≡ k.inner = fails_one k.sublayout (folder_of step.name id bundle) h.inner
      k.inner
      (subst (λ l. fails l (folder_of step.name id bundle) h.inner) sublayout h.fails_there)
      k.fails_there in
      h.refusal_is ∙ ap (under step.name id) inner ∙ sym k.refusal_is

  not_both : (step : Step) (id : List ℕ) (refusal : ChainRefusal)
      → HasTwo sub fails setting layout bundle step id
      → ¬ SublayoutFails sub fails setting layout bundle step id refusal
  not_both step id refusal two k = two.differ (sym (k.one_body two.payload two.first)
      ∙ k.one_body two.other two.second)

  at_id_one : (step : Step) (id : List ℕ) → OneAt At (at_id step id)
  at_id_one step id a b h k =
      ⊎_elim (λ x. ⊎_elim (λ y. x.1 ∙ sym y.1) (λ y. absurd (not_both step id b x.0 y)) k)
      (λ x. ⊎_elim (λ y. absurd (not_both step id a y.0 x)) (λ y. failing_one step id a b x y) k) h

  at_threshold_one : (step : Step) → OneAt At (at_threshold step)
  at_threshold_one step a b h k =
      let same : h.0 ≡ k.0 = found_one setting layout bundle step h.0 k.0 h.1.is_found
      k.1.is_found in
      h.2 ∙ ap (λ n. here (Threshold step.name n step.threshold)) same ∙ sym k.2

  -- where no id has two bodies, an id has one record
  only_record : (step : Step) → NoneAt At (map (at_id step) (keys layout.keys))
      → (id : List ℕ) (x y : Recorded)
      → HasRecord sub setting layout bundle step id x
      → HasRecord sub setting layout bundle step id y → x ≡ y
  only_record step none id x y h k =
      let held : is_some (get layout.keys id) ≡ true = ap is_some h.counted.known in
      let among : list_any (eq_by_cmp (slice_cmp nat_cmp) id) (keys layout.keys) ≡ true =
      sym (contains_key-keys layout.keys id) ∙ held in
      let nothing = key_listed At step id (keys layout.keys) among none in
      let same : h.payload ≡ k.payload = not_different h.payload k.payload (λ differ.
      nothing (here (TwoPayloads step.name id))
      (inl (
        record {
          payload = h.payload;
          other = k.payload;
          first = h.counted;
          second = k.counted;
          differ =
              differ;
        },
        refl,
      ))) in
      record_one sub one setting bundle layout step id x y h k same

  other_one : (step : Step) → NoneAt At (map (at_id step) (keys layout.keys)) → (a b : List ℕ)
      → IsLeastOther sub fails setting layout bundle step a
      → IsLeastOther sub fails setting layout bundle step b → a ≡ b
  other_one step none a b h k =
      let least : h.least ≡ k.least =
      neither_before h.least k.least (k.is_least h.least h.expected h.of_least)
      (h.is_least k.least k.expected k.of_least) in
      let expected : h.expected ≡ k.expected = only_record step none k.least h.expected k.expected
      (subst (λ id. HasRecord sub setting layout bundle step id h.expected) least h.of_least)
      k.of_least in
      neither_before a b
      (λ less. h.differs (k.is_first a h.given h.of_id less ∙ sym expected))
      (λ less. k.differs (h.is_first b k.given k.of_id less ∙ expected))

  at_records_one : (step : Step) → NoneAt At (map (at_id step) (keys layout.keys))
      → OneAt At (at_records step)
  at_records_one step none a b h k = h.2 ∙ ap (λ id. here (Disagree step.name id))
      (other_one step none h.0 k.0 h.1 k.1) ∙ sym k.2

  at_rules_one : (step : Step) (side : Side) → OneAt At (at_rules step side)
  at_rules_one step side a b h k =
      let x = h.2 in
      let y = k.2 in
      let results : x.results ≡ y.results =
      steps_one sub one setting bundle layout layout.steps x.results y.results x.steps
      y.steps in
      let result : x.result ≡ y.result =
      step_one sub one setting bundle layout step x.result y.result
      (of_zip (StepHolds sub setting layout bundle) layout.steps x.results step x.result x.steps
      x.of_step) (of_zip (StepHolds sub setting layout bundle) layout.steps y.results step
      y.result y.steps y.of_step) in
      let fault : IsFirstFault (rules_on side step) side (recorded_in y.result) (links_in y.results)
      h.0 h.1 =
      subst (λ r. IsFirstFault (rules_on side step) side (recorded_in r) (links_in y.results) h.0
      h.1) result
      (subst (λ rs. IsFirstFault (rules_on side step) side (recorded_in x.result) (links_in rs) h.0
      h.1) results x.fault) in
      let same = fault_one (rules_on side step) side (recorded_in y.result) (links_in y.results) h.0
      k.0 h.1 k.1 fault y.fault in
      h.3 ∙ (λ i. here (RuleFailed (of_step step.name) side (same.0 i) (same.1 i))) ∙ sym k.3

  step_one_first : (step : Step) → OneFirst At (step_places layout step)
  step_one_first step =
      one_append At (map (at_id step) (keys layout.keys)) (at_threshold step ∷ at_records step ∷ [])
      (one_map At (at_id step) (keys layout.keys) (at_id_one step))
      (λ none. one_more At (at_threshold step) (at_records step ∷ []) (at_threshold_one step)
      (λ _. one_more At (at_records step) [] (at_records_one step none) (λ _. one_none At)))

  rules_one_first : (step : Step) → OneFirst At (rule_places step)
  rules_one_first step =
      one_more At (at_rules step Materials) (at_rules step Products ∷ [])
      (at_rules_one step Materials)
      (λ _. one_more At (at_rules step Products) [] (at_rules_one step Products) (λ _. one_none At))

  pub level_fails_one : (a b : ChainRefusal) → LevelFails sub fails setting layout bundle a
      → LevelFails sub fails setting layout bundle b → a ≡ b
  level_fails_one a b =
      one_more At at_expiry (flat_map (step_places layout) layout.steps
      ++ flat_map rule_places layout.steps) (λ x y h k. h.1 ∙ sym k.1)
      (λ _. one_append At (flat_map (step_places layout) layout.steps)
      (flat_map rule_places layout.steps)
      (one_flat_map At (step_places layout) layout.steps step_one_first)
      (λ _. one_flat_map At rule_places layout.steps rules_one_first)) a b

uninspected_one : (fails : Failing) → FailsOneWay fails → FailsOneWay (uninspected fails)
uninspected_one fails one layout bundle a b h k =
    ⊎_elim (λ x. ⊎_elim (λ y. x.1 ∙ sym y.1) (λ y. absurd (x.0 y.0)) k)
    (λ x. ⊎_elim (λ y. absurd (y.0 x.0)) (λ y. one layout bundle a b x.1 y.1) k) h

pub first_one : (setting : Setting) (depth : ℕ) → FailsOneWay (FirstChainFailure setting depth)
first_one setting zero layout bundle a b = level_fails_one none_holds too_deep none_one
    (λ l c x y h k. h ∙ sym k) setting layout bundle a b
first_one setting (suc depth) layout bundle a b =
    level_fails_one (Chain setting depth) (uninspected (FirstChainFailure setting depth))
    (chain_one setting depth) (uninspected_one (FirstChainFailure setting depth)
    (first_one setting depth)) setting layout bundle a b
