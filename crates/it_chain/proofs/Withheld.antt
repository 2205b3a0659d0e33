-- Over a bundle of which less counts a layout comes to the same with no more keys, or a threshold
-- is not met: of one level with its sublayouts' given, and then of every depth.
use Rattle.std.proofs.Common.{◌≡◌, ◌≤◌, ℕ, zero, suc, List, [], ◌∷◌, ◌++◌, map, flat_map, ⊎_elim}
use Rattle.std.proofs.Common.{length, Contains, refl, sym, ap, subst, ◌∙◌, arith}
use Rattle.std.specs.List.{AllZip}
use Rattle.std.specs.FinMap.{empty, keys}
use Rattle.std.proofs.lemmas.Map.Made.{length-le_from_is_member}
use Rattle.it_base.specs.Places.{IsFirst}
use Rattle.it_digest.specs.Artifacts.{ArtifactMap}
use Rattle.it_docs.specs.Layout.{LayoutOf}
use Rattle.it_docs.specs.declared.layout.Layout.{Layout}
use Rattle.it_docs.specs.declared.step.Step.{Step}
use Rattle.it_docs.specs.declared.rule.Side.{Side}
use Rattle.it_docs.specs.declared.rule.Side.TheVariants.{Materials, Products}
use Rattle.it_rules.specs.Item.{Recorded, Links}
use Rattle.it_rules.specs.Rules.{RulesHold}
use Rattle.it_chain.specs.Alike.{ChainWithin, LevelWithin}
use Rattle.it_chain.specs.Chain.{Chain, none_holds}
use Rattle.it_chain.specs.Contents.{Contents}
use Rattle.it_chain.specs.CountedBodies.{Setting, Body, of_link, of_layout, BodyOf, Counted}
use Rattle.it_chain.specs.Threshold.{Found}
use Rattle.it_chain.specs.First.{Failing, ChainPlace, at_id, at_threshold, at_records, at_rules}
use Rattle.it_chain.specs.First.{step_places, rule_places, places, StandsInChain, LevelFails}
use Rattle.it_chain.specs.First.{FirstChainFailure, too_deep, uninspected}
use Rattle.it_chain.specs.Laws.{IsNoMore, IsThresholdFault, ChainOnlyWithholds}
use Rattle.it_chain.specs.Level.{Holding, Records, HasRecord, StepHolds, LevelHolds}
use Rattle.it_chain.specs.StepRules.{StepRulesHold, recorded_in, links_in}
use Rattle.it_chain.specs.Summary.{first_materials, last_products, summary}
use Rattle.it_chain.specs.Sublayouts.{folder_of}
use Rattle.it_chain.specs.declared.chain.StepResult.{StepResult}
use Rattle.it_chain.specs.declared.refusal.ChainRefusal.{ChainRefusal}
use Rattle.it_chain.proofs.Alikes.{key_moved}
use Rattle.it_chain.proofs.Levels.{body_one, rules_of}
use Rattle.it_chain.proofs.Numbers.{member_of, some_key, same_key_equiv}
use Rattle.it_chain.proofs.Zips.{of_zip}

-- ---- records with no more keys
recorded_same : (r b : StepResult) → IsNoMore r b → recorded_in r ≡ recorded_in b
recorded_same r b h = λ i. record { materials = h.materials i; products = h.products i }

pub links_same : (rs bs : List StepResult) → AllZip IsNoMore rs bs → links_in rs ≡ links_in bs
links_same [] [] h = refl
links_same [] (b ∷ bs) h = absurd h
links_same (r ∷ rs) [] h = absurd h
links_same (r ∷ rs) (b ∷ bs) h =
    let rest : links_in rs ≡ links_in bs = links_same rs bs h.1 in
    let recorded : recorded_in r ≡ recorded_in b = recorded_same r b h.0 in
    λ i. (h.0.name i, recorded i) ∷ rest i

first_same : (rs bs : List StepResult) → AllZip IsNoMore rs bs
    → first_materials rs ≡ first_materials bs
first_same [] [] h = refl
first_same [] (b ∷ bs) h = absurd h
first_same (r ∷ rs) [] h = absurd h
first_same (r ∷ rs) (b ∷ bs) h = h.0.materials

last_same : (x y : ArtifactMap) → x ≡ y → (rs bs : List StepResult) → AllZip IsNoMore rs bs
    → last_products x rs ≡ last_products y bs
last_same x y e [] [] h = e
last_same x y e [] (b ∷ bs) h = absurd h
last_same x y e (r ∷ rs) [] h = absurd h
last_same x y e (r ∷ rs) (b ∷ bs) h = last_same r.products b.products h.0.products rs bs h.1

summary_same : (rs bs : List StepResult) → AllZip IsNoMore rs bs → summary rs ≡ summary bs
summary_same rs bs h =
    let first = first_same rs bs h in
    let last = last_same empty empty refl rs bs h in
    λ i. record { materials = first i; products = last i }

rules_same : (links : Links) (steps : List Step) (rs bs : List StepResult) → AllZip IsNoMore rs bs
    → AllZip (StepRulesHold links) steps bs → AllZip (StepRulesHold links) steps rs
rules_same links [] [] bs h k = tt
rules_same links [] (r ∷ rs) [] h k = absurd h
rules_same links [] (r ∷ rs) (b ∷ bs) h k = absurd k
rules_same links (s ∷ ss) [] [] h k = absurd k
rules_same links (s ∷ ss) [] (b ∷ bs) h k = absurd h
rules_same links (s ∷ ss) (r ∷ rs) [] h k = absurd h
rules_same links (s ∷ ss) (r ∷ rs) (b ∷ bs) h k =
    let recorded : recorded_in b ≡ recorded_in r = sym (recorded_same r b h.0) in (
      record {
        materials = subst (λ x. RulesHold s.expected_materials Materials x links) recorded
            k.0.materials;
        products = subst (λ x. RulesHold s.expected_products Products x links) recorded
            k.0.products;
      },
      rules_same links ss rs bs h.1 k.1,
    )

-- ---- what stands at every place
module _ {P R : Type 0} (At : P → R → Type 0) (Q : R → Type 0) where
  abbrev AllAt : List P → Type 0
  AllAt [] = Unit {0}
  AllAt (p ∷ ps) = ((r : R) → At p r → Q r) × AllAt ps

  first_all : (ps : List P) (r : R) → AllAt ps → IsFirst At ps r → Q r
  first_all [] r all h = absurd h
  first_all (p ∷ ps) r all h = ⊎_elim (all.0 r) (λ x. first_all ps r all.1 x.1) h

  all_append : (ps qs : List P) → AllAt ps → AllAt qs → AllAt (ps ++ qs)
  all_append [] qs h k = k
  all_append (p ∷ ps) qs h k = (h.0, all_append ps qs h.1 k)

  all_map : {X : Type 0} (f : X → P) (xs : List X) → ((x : X) (r : R) → At (f x) r → Q r)
      → AllAt (map f xs)
  all_map f [] h = tt
  all_map f (x ∷ xs) h = (h x, all_map f xs h)

-- from the bundle of which less counts to the other: what counts does so, and what sublayouts come
-- to there has no more keys, or fails at a threshold
record Withholds (sub : Holding) (fails : Failing) (setting : Setting) (layout : Layout)
    (less more : Contents) : Type 0 where
  bodies : (step : Step) (id payload : List ℕ) → Contains layout.steps step
      → Counted setting layout less step id payload → Counted setting layout more step id payload
  holds : (step : Step) (id payload : List ℕ) (sublayout : Layout) (m n : List StepResult)
      → Contains layout.steps step → Counted setting layout less step id payload
      → LayoutOf payload sublayout
      → sub sublayout (folder_of step.name id less) m
      → sub sublayout (folder_of step.name id more) n → AllZip IsNoMore m n
  failing : (step : Step) (id payload : List ℕ) (sublayout : Layout) (refusal : ChainRefusal)
      (n : List StepResult) → Contains layout.steps step
      → Counted setting layout less step id payload → LayoutOf payload sublayout
      → sublayout.inspections ≡ [] → fails sublayout (folder_of step.name id less) refusal
      → sub sublayout (folder_of step.name id more) n → IsThresholdFault refusal.fault

module _ (sub : Holding) (fails : Failing) (setting : Setting) (layout : Layout)
    (less more : Contents) (w : Withholds sub fails setting layout less more) where
  records_same : (step : Step) (id payload : List ℕ) (body : Body) (x y : Recorded)
      → Contains layout.steps step → Counted setting layout less step id payload
      → BodyOf step.name payload body
      → Records sub less step.name id body x → Records sub more step.name id body y → x ≡ y
  records_same step id payload (of_link link) x y c counted reads h k = h ∙ sym k
  records_same step id payload (of_layout sublayout) x y c counted reads h k =
      h.3 ∙ summary_same h.0 k.0 (w.holds step id payload sublayout h.0 k.0 c counted reads h.2 k.2)
      ∙ sym k.3

  -- where the step holds over the larger bundle, each record of the smaller is that record
  the_record : (step : Step) (b : StepResult) → Contains layout.steps step
      → StepHolds sub setting layout more step b → (id : List ℕ) (x : Recorded)
      → HasRecord sub setting layout less step id x → x ≡ recorded_in b
  the_record step b c h id x k =
      let a = h.agree id k.payload (w.bodies step id k.payload c k.counted) in
      let same : a.payload ≡ k.payload = h.one_body id a.payload k.payload a.counted
      (w.bodies step id k.payload c k.counted) in
      let body : a.body ≡ k.body = body_one step.name k.payload a.body k.body
      (subst (λ p. BodyOf step.name p a.body) same a.reads) k.reads in
      records_same step id k.payload k.body x (recorded_in b) c k.counted k.reads k.records
      (subst (λ y. Records sub more step.name id y (recorded_in b)) body a.records)

  no_more_keys : (step : Step) → Contains layout.steps step → (m n : ℕ)
      → Found setting layout less step m → Found setting layout more step n → m ≤ n
  no_more_keys step c m n a b =
      let le : length a.keys ≤ length b.keys = length-le_from_is_member same_key_equiv a.keys b.keys
      a.once
      (member_of a.keys b.keys
      (λ k h. (b.are_those k).1
      (key_moved setting layout less more step (λ id payload. w.bodies step id payload c) k
      ((a.are_those k).0 h)))) in
      omega (arith, le, a.number_is, b.number_is)

  step_no_more : (step : Step) (r b : StepResult) → Contains layout.steps step
      → StepHolds sub setting layout less step r → StepHolds sub setting layout more step b
      → IsNoMore r b
  step_no_more step r b c h k =
      let some = some_key setting layout less step r.keys h.keys
      (omega (arith, h.threshold, step.threshold_at_least_one)) in
      let recorded : recorded_in r ≡ recorded_in b = the_record step b c k some.1.id (recorded_in r)
      (h.agree some.1.id some.1.payload some.1.counted) in
      record {
        name = h.name ∙ sym k.name;
        materials = ap (λ (x : Recorded). x.materials) recorded;
        products = ap (λ (x : Recorded). x.products) recorded;
        keys = no_more_keys step c r.keys b.keys h.keys k.keys;
      }

  steps_no_more : (steps : List Step) (rs bs : List StepResult)
      → ((step : Step) → Contains steps step → Contains layout.steps step)
      → AllZip (StepHolds sub setting layout less) steps rs
      → AllZip (StepHolds sub setting layout more) steps bs → AllZip IsNoMore rs bs
  steps_no_more [] [] [] among h k = tt
  steps_no_more [] [] (b ∷ bs) among h k = absurd k
  steps_no_more [] (r ∷ rs) bs among h k = absurd h
  steps_no_more (s ∷ ss) [] bs among h k = absurd h
  steps_no_more (s ∷ ss) (r ∷ rs) [] among h k = absurd k
  steps_no_more (s ∷ ss) (r ∷ rs) (b ∷ bs) among h k = (
    step_no_more s r b (among s (0, omega arith, refl)) h.0 k.0,
    steps_no_more ss rs bs
        (λ step c. among step (suc c.0, omega (arith, c.1), c.2)) h.1 k.1,
  )

  all_no_more : (rs bs : List StepResult) → AllZip (StepHolds sub setting layout less) layout.steps
      rs → AllZip (StepHolds sub setting layout more) layout.steps bs → AllZip IsNoMore rs bs
  all_no_more rs bs = steps_no_more layout.steps rs bs (λ step c. c)

  abbrev At : ChainPlace → ChainRefusal → Type 0
  At = StandsInChain sub fails setting layout less

  abbrev Few : ChainRefusal → Type 0
  Few refusal = IsThresholdFault refusal.fault

  inner_few : (step : Step) (id payload : List ℕ) (sublayout : Layout) (inner : ChainRefusal)
      (recorded : Recorded) → Contains layout.steps step
      → Counted setting layout less step id payload → LayoutOf payload sublayout
      → fails sublayout (folder_of step.name id less) inner → Records sub more step.name id
      (of_layout sublayout) recorded → IsThresholdFault inner.fault
  inner_few step id payload sublayout inner recorded c counted is failed h =
      w.failing step id payload sublayout inner h.0 c counted is h.1 failed h.2

  id_few : (step : Step) (b : StepResult) → Contains layout.steps step
      → StepHolds sub setting layout more step b → (id : List ℕ) (refusal : ChainRefusal)
      → At (at_id step id) refusal → Few refusal
  id_few step b c h id refusal =
      ⊎_elim (λ x. let two = x.0 in
      absurd (two.differ
      (h.one_body id two.payload two.other (w.bodies step id two.payload c two.first)
      (w.bodies step id two.other c two.second))))
      (λ k.
      let a = h.agree id k.payload (w.bodies step id k.payload c k.counted) in
      let same : a.payload ≡ k.payload = h.one_body id a.payload k.payload a.counted
      (w.bodies step id k.payload c k.counted) in
      let body : a.body ≡ of_layout k.sublayout = body_one step.name k.payload a.body
      (of_layout k.sublayout) (subst (λ p. BodyOf step.name p a.body) same a.reads)
      k.is_layout in
      let few : IsThresholdFault k.inner.fault = inner_few step id k.payload k.sublayout k.inner
      (recorded_in b) c k.counted k.is_layout k.fails_there
      (subst (λ y. Records sub more step.name id y (recorded_in b)) body a.records) in
      subst Few (sym k.refusal_is) few)

  other_few : (step : Step) (b : StepResult) → Contains layout.steps step
      → StepHolds sub setting layout more step b → (refusal : ChainRefusal)
      → At (at_records step) refusal → Few refusal
  other_few step b c h refusal x =
      let k = x.1 in
      absurd (k.differs (the_record step b c h x.0 k.given k.of_id
      ∙ sym (the_record step b c h k.least k.expected k.of_least)))

  step_few : (step : Step) (b : StepResult) → Contains layout.steps step
      → StepHolds sub setting layout more step b → AllAt At Few (step_places layout step)
  step_few step b c h =
      all_append At Few (map (at_id step) (keys layout.keys))
      (at_threshold step ∷ at_records step ∷ []) (all_map At Few (at_id step) (keys layout.keys)
      (id_few step b c h))
      (λ refusal x. subst Few (sym x.2) tt, (other_few step b c h, tt))

  steps_few : (steps : List Step) (bs : List StepResult)
      → ((step : Step) → Contains steps step → Contains layout.steps step)
      → AllZip (StepHolds sub setting layout more) steps bs
      → AllAt At Few (flat_map (step_places layout) steps)
  steps_few [] bs among h = tt
  steps_few (s ∷ ss) [] among h = absurd h
  steps_few (s ∷ ss) (b ∷ bs) among h =
      all_append At Few (step_places layout s) (flat_map (step_places layout) ss)
      (step_few s b (among s (0, omega arith, refl)) h.0)
      (steps_few ss bs (λ step c. among step (suc c.0, omega (arith, c.1), c.2)) h.1)

  rule_few : (bs : List StepResult) → LevelHolds sub setting layout more bs
      → (step : Step) (side : Side) (refusal : ChainRefusal) → At (at_rules step side) refusal
      → Few refusal
  rule_few bs h step side refusal x =
      let k = x.2 in
      let fewer : AllZip IsNoMore k.results bs = all_no_more k.results bs k.steps h.steps in
      let rules : AllZip (StepRulesHold (links_in k.results)) layout.steps k.results =
      subst (λ links. AllZip (StepRulesHold links) layout.steps k.results)
      (sym (links_same k.results bs fewer))
      (rules_same (links_in bs) layout.steps k.results bs fewer h.rules) in
      absurd (k.fault.fails (rules_of (links_in k.results) step k.result side
      (of_zip (StepRulesHold (links_in k.results)) layout.steps k.results step k.result rules
      k.of_step) x.0))

  rules_few : (bs : List StepResult) → LevelHolds sub setting layout more bs → (steps : List Step)
      → AllAt At Few (flat_map rule_places steps)
  rules_few bs h [] = tt
  rules_few bs h (s ∷ ss) =
      (rule_few bs h s Materials, (rule_few bs h s Products, rules_few bs h ss))

  level_few : (bs : List StepResult) → LevelHolds sub setting layout more bs
      → (refusal : ChainRefusal) → LevelFails sub fails setting layout less refusal → Few refusal
  level_few bs h refusal =
      first_all At Few (places layout) refusal (
        λ r x. absurd (h.unexpired x.0),
        all_append At Few (flat_map (step_places layout) layout.steps)
            (flat_map rule_places layout.steps) (steps_few layout.steps bs (λ s c. c) h.steps)
            (rules_few bs h layout.steps),
      )

  level_no_more : (rs bs : List StepResult) → LevelHolds sub setting layout less rs
      → LevelHolds sub setting layout more bs → AllZip IsNoMore rs bs
  level_no_more rs bs h k = all_no_more rs bs h.steps k.steps

-- ---- every depth
abbrev Withheld : Setting → ℕ → Type 0
Withheld setting depth = (layout : Layout) (less more : Contents)
    → ChainWithin setting depth layout less more → ChainOnlyWithholds setting depth layout less more

withholds_more : (setting : Setting) (depth : ℕ) → Withheld setting depth
    → (layout : Layout) (less more : Contents) → LevelWithin (ChainWithin setting depth) setting
    layout less more
    → Withholds (Chain setting depth) (uninspected (FirstChainFailure setting depth)) setting layout
    less more
withholds_more setting depth inner layout less more h = record {
  bodies = h.bodies;
  holds = λ step id payload sublayout m n c counted is x y.
      (inner sublayout _ _ (h.folders step id payload sublayout c counted is)).chain m n x y;
  failing = λ step id payload sublayout refusal n c counted is bare x y.
      ⊎_elim (λ k. absurd (k.0 bare))
      (λ k. (inner sublayout _ _ (h.folders step id payload sublayout c counted is)).first
      refusal n k.1 y) x;
}

pub withheld : (setting : Setting) (depth : ℕ) → Withheld setting depth
withheld setting zero layout less more h =
    let w : Withholds none_holds too_deep setting layout less more = record {
      bodies = h.bodies;
      holds = λ step id payload sublayout m n c counted is x y. absurd x;
      failing = λ step id payload sublayout refusal n c counted is bare x y. absurd y;
    } in
    record {
      chain = λ rs bs x y. level_no_more none_holds too_deep setting layout less more w rs bs x y;
      first = λ refusal bs x y. level_few none_holds too_deep setting layout less more w bs y
          refusal x;
    }
withheld setting (suc depth) layout less more h =
    let w = withholds_more setting depth (withheld setting depth) layout less more h in
    record {
      chain = λ rs bs x y. level_no_more (Chain setting depth)
          (uninspected (FirstChainFailure setting depth)) setting layout less more w rs bs x y;
      first = λ refusal bs x y. level_few (Chain setting depth)
          (uninspected (FirstChainFailure setting depth)) setting layout less more w bs y refusal x;
    }
