-- One level: a layout holds with one list of records at most, and then has no failure.
use Rattle.std.proofs.Common.{◌≡◌, ℕ, List, [], ◌∷◌, refl, sym, ap, subst, ◌∙◌, arith}
use Rattle.std.specs.List.{AllZip}
use Rattle.it_docs.specs.declared.layout.Layout.{Layout}
use Rattle.it_docs.specs.declared.step.Step.{Step}
use Rattle.it_docs.specs.declared.rule.Side.{Side}
use Rattle.it_docs.specs.declared.rule.Side.TheVariants.{Materials, Products}
use Rattle.it_rules.specs.Item.{Recorded, Links}
use Rattle.it_rules.specs.Rules.{RulesHold}
use Rattle.it_docs.proofs.Same.{layout_same, link_same}
use Rattle.it_chain.specs.Contents.{Contents}
use Rattle.it_chain.specs.CountedBodies.{Setting, Body, of_link, of_layout, BodyOf, Counted}
use Rattle.it_chain.specs.First.{Failing, HasTwo, SublayoutFails, TooFew, IsLeastOther, RulesFail}
use Rattle.it_chain.specs.Level.{Holding, Records, HasRecord, StepHolds, LevelHolds}
use Rattle.it_chain.specs.StepRules.{recorded_in, links_in, rules_on, StepRulesHold}
use Rattle.it_chain.specs.Summary.{summary}
use Rattle.it_chain.specs.Sublayouts.{folder_of}
use Rattle.it_chain.specs.declared.chain.StepResult.{StepResult}
use Rattle.it_chain.specs.declared.refusal.ChainRefusal.{ChainRefusal}
use Rattle.it_chain.proofs.Documents.{link_or_layout}
use Rattle.it_chain.proofs.Numbers.{found_one, some_key}
use Rattle.it_chain.proofs.Zips.{of_zip}

-- what holds holds in one way
abbrev pub HoldsOneWay : Holding → Type 0
HoldsOneWay sub = (layout : Layout) (bundle : Contents) (m n : List StepResult)
    → sub layout bundle m → sub layout bundle n → m ≡ n

-- what holds, and has no inspections, does not fail
abbrev pub HoldsOrFails : Holding → Failing → Type 0
HoldsOrFails sub fails = (layout : Layout) (bundle : Contents) (m : List StepResult)
    (refusal : ChainRefusal) → layout.inspections ≡ [] → sub layout bundle m
    → ¬ fails layout bundle refusal

-- the rules of a step on a side
pub rules_of : (links : Links) (step : Step) (r : StepResult) (side : Side)
    → StepRulesHold links step r → RulesHold (rules_on side step) side (recorded_in r) links
rules_of links step r Materials h = h.materials
rules_of links step r Products h = h.products

pub body_one : (step bytes : List ℕ) (a b : Body) → BodyOf step bytes a → BodyOf step bytes b
    → a ≡ b
body_one step bytes (of_link a) (of_link b) h k = ap of_link (link_same bytes a b h.0 k.0)
body_one step bytes (of_link a) (of_layout b) h k = absurd (link_or_layout bytes a b h.0 k)
body_one step bytes (of_layout a) (of_link b) h k = absurd (link_or_layout bytes b a k.0 h)
body_one step bytes (of_layout a) (of_layout b) h k = ap of_layout (layout_same bytes a b h k)

module _ (sub : Holding) (one : HoldsOneWay sub) (setting : Setting) (bundle : Contents) where
  records_one : (step id : List ℕ) (body : Body) (x y : Recorded)
      → Records sub bundle step id body x → Records sub bundle step id body y → x ≡ y
  records_one step id (of_link link) x y h k = h ∙ sym k
  records_one step id (of_layout layout) x y h k =
      h.3 ∙ ap summary (one layout (folder_of step id bundle) h.0 k.0 h.2 k.2) ∙ sym k.3

  module _ (layout : Layout) where
    -- where an id has one body, it has one record
    pub record_one : (step : Step) (id : List ℕ) (x y : Recorded)
        (h : HasRecord sub setting layout bundle step id x)
        (k : HasRecord sub setting layout bundle step id y) → h.payload ≡ k.payload → x ≡ y
    record_one step id x y h k e =
        let reads_same : BodyOf step.name h.payload k.body = subst (λ p. BodyOf step.name p k.body)
        (sym e) k.reads in
        let body : h.body ≡ k.body =
        body_one step.name h.payload h.body k.body h.reads reads_same in
        records_one step.name id h.body x y h.records
        (subst (λ b. Records sub bundle step.name id b y) (sym body) k.records)

    pub step_one : (step : Step) (r q : StepResult) → StepHolds sub setting layout bundle step r
        → StepHolds sub setting layout bundle step q → r ≡ q
    step_one step r q h k =
        let some = some_key setting layout bundle step r.keys h.keys
        (omega (arith, h.threshold, step.threshold_at_least_one)) in
        let a = h.agree some.1.id some.1.payload some.1.counted in
        let b = k.agree some.1.id some.1.payload some.1.counted in
        let recorded : recorded_in r ≡ recorded_in q =
        record_one step some.1.id _ _ a b
        (h.one_body some.1.id a.payload b.payload a.counted b.counted) in
        let name : r.name ≡ q.name = h.name ∙ sym k.name in
        let count : r.keys ≡ q.keys = found_one setting layout bundle step r.keys q.keys h.keys
        k.keys in
        λ i. record {
          name = name i;
          materials = (recorded i).materials;
          products = (recorded i).products;
          keys = count i;
        }

    pub steps_one : (steps : List Step) (rs qs : List StepResult)
        → AllZip (StepHolds sub setting layout bundle) steps rs
        → AllZip (StepHolds sub setting layout bundle) steps qs → rs ≡ qs
    steps_one [] [] [] h k = refl
    steps_one [] [] (q ∷ qs) h k = absurd k
    steps_one [] (r ∷ rs) qs h k = absurd h
    steps_one (s ∷ ss) [] qs h k = absurd h
    steps_one (s ∷ ss) (r ∷ rs) [] h k = absurd k
    steps_one (s ∷ ss) (r ∷ rs) (q ∷ qs) h k =
        let first : r ≡ q = step_one s r q h.0 k.0 in
        let rest : rs ≡ qs = steps_one ss rs qs h.1 k.1 in
        λ i. first i ∷ rest i

    pub level_one : (m n : List StepResult) → LevelHolds sub setting layout bundle m
        → LevelHolds sub setting layout bundle n → m ≡ n
    level_one m n h k = steps_one layout.steps m n h.steps k.steps

  module _ (fails : Failing) (apart : HoldsOrFails sub fails) (layout : Layout) where
    -- nothing stands at the places of a step that holds
    pub no_two : (step : Step) (r : StepResult) → StepHolds sub setting layout bundle step r
        → (id : List ℕ) → ¬ HasTwo sub fails setting layout bundle step id
    no_two step r h id two = two.differ (h.one_body id two.payload two.other two.first two.second)

    inner_holds : (step id : List ℕ) (sublayout : Layout) (inner : ChainRefusal)
        (recorded : Recorded) → Records sub bundle step id (of_layout sublayout) recorded
        → ¬ fails sublayout (folder_of step id bundle) inner
    inner_holds step id sublayout inner recorded h =
        apart sublayout (folder_of step id bundle) h.0 inner h.1 h.2

    -- an id that has a record and no other body is no sublayout that fails
    pub not_failing : (step : Step) (id : List ℕ) (recorded : Recorded)
        (a : HasRecord sub setting layout bundle step id recorded)
        → ((other : List ℕ) → Counted setting layout bundle step id other → a.payload ≡ other)
        → (refusal : ChainRefusal) → ¬ SublayoutFails sub fails setting layout bundle step id
        refusal
    not_failing step id recorded a alone refusal k =
        let same : a.payload ≡ k.payload = alone k.payload k.counted in
        let body : a.body ≡ of_layout k.sublayout = body_one step.name k.payload a.body
        (of_layout k.sublayout) (subst (λ p. BodyOf step.name p a.body) same a.reads)
        k.is_layout in
        inner_holds step.name id k.sublayout k.inner recorded
        (subst (λ b. Records sub bundle step.name id b recorded) body a.records) k.fails_there

    pub no_failing : (step : Step) (r : StepResult) → StepHolds sub setting layout bundle step r
        → (id : List ℕ) (refusal : ChainRefusal) → ¬ SublayoutFails sub fails setting layout bundle
        step id refusal
    no_failing step r h id refusal k =
        let a = h.agree id k.payload k.counted in
        not_failing step id (recorded_in r) a (λ other c. h.one_body id a.payload other a.counted c)
        refusal k

    pub no_few : (step : Step) (r : StepResult) → StepHolds sub setting layout bundle step r
        → (found : ℕ) → ¬ TooFew sub fails setting layout bundle step found
    no_few step r h found k =
        let same : found ≡ r.keys = found_one setting layout bundle step found r.keys k.is_found
        h.keys in
        let short = k.below in
        let long = h.threshold in
        omega arith

    -- every record is that with which the step holds
    the_record : (step : Step) (r : StepResult) → StepHolds sub setting layout bundle step r
        → (id : List ℕ) (x : Recorded) → HasRecord sub setting layout bundle step id x
        → x ≡ recorded_in r
    the_record step r h id x k =
        let a = h.agree id k.payload k.counted in
        record_one layout step id x (recorded_in r) k a
        (h.one_body id k.payload a.payload k.counted a.counted)

    pub no_other : (step : Step) (r : StepResult) → StepHolds sub setting layout bundle step r
        → (id : List ℕ) → ¬ IsLeastOther sub fails setting layout bundle step id
    no_other step r h id k = k.differs (the_record step r h id k.given k.of_id
        ∙ sym (the_record step r h k.least k.expected k.of_least))

    pub no_rules : (m : List StepResult) → LevelHolds sub setting layout bundle m
        → (step : Step) (side : Side) (index : ℕ) (path : List ℕ)
        → ¬ RulesFail sub fails setting layout bundle step side index path
    no_rules m h step side index path k =
        let same : m ≡ k.results = steps_one layout layout.steps m k.results h.steps k.steps in
        let rules : AllZip (StepRulesHold (links_in k.results)) layout.steps k.results =
        subst (λ rs. AllZip (StepRulesHold (links_in rs)) layout.steps rs) same h.rules in
        k.fault.fails (rules_of (links_in k.results) step k.result side
        (of_zip (StepRulesHold (links_in k.results)) layout.steps k.results step k.result rules
        k.of_step) index)
