-- The failure of a layout over a bundle: the one at the first place that has a failure (the order
-- is this profile's choice).
use Rattle.std.specs.Prelude.{◌≡◌, ◌≢◌, ◌⊎◌, ℕ, zero, suc, ◌<◌, List, [], ◌∷◌, ◌++◌, map, flat_map}
use Rattle.std.specs.Prelude.{zip, Contains}
use Rattle.std.specs.List.{AllZip}
use Rattle.std.specs.FinMap.{keys}
use Rattle.std.specs.Ordering.{nat_cmp}
use Rattle.std.specs.Cmp.Lexicographic.{slice_cmp}
use Rattle.std.specs.declared.cmp.Ordering.TheVariants.{Less}
use Rattle.it_base.specs.Places.{IsFirst}
use Rattle.it_docs.specs.Layout.{LayoutOf}
use Rattle.it_docs.specs.declared.layout.Layout.{Layout}
use Rattle.it_docs.specs.declared.step.Step.{Step}
use Rattle.it_docs.specs.declared.rule.Side.{Side}
use Rattle.it_docs.specs.declared.rule.Side.TheVariants.{Materials, Products}
use Rattle.it_rules.specs.Item.{Recorded}
use Rattle.it_rules.specs.Rules.{IsFirstFault}
use Rattle.it_chain.specs.Chain.{Chain, none_holds}
use Rattle.it_chain.specs.Contents.{Contents}
use Rattle.it_chain.specs.CountedBodies.{Setting, Counted}
use Rattle.it_chain.specs.Threshold.{Found}
use Rattle.it_chain.specs.Level.{Holding, HasRecord, StepHolds}
use Rattle.it_chain.specs.StepRules.{links_in, recorded_in, rules_on}
use Rattle.it_chain.specs.Sublayouts.{folder_of}
use Rattle.it_chain.specs.declared.chain.StepResult.{StepResult}
use Rattle.it_chain.specs.declared.refusal.ChainFault.{ChainFault}
use Rattle.it_chain.specs.declared.refusal.ChainFault.TheVariants.{Expired, TwoPayloads, TooDeep}
use Rattle.it_chain.specs.declared.refusal.ChainFault.TheVariants.{Threshold, Disagree}
use Rattle.it_chain.specs.declared.refusal.ChainFault.TheVariants.{InspectionInSublayout}
use Rattle.it_chain.specs.declared.refusal.ChainFault.TheVariants.{RuleFailed}
use Rattle.it_chain.specs.declared.refusal.ChainRefusal.{ChainRefusal}
use Rattle.it_chain.specs.declared.refusal.RuleItem.TheVariants.{Step as of_step}
use Rattle.it_chain.specs.Expiry.{IsExpired}

-- the refusal for a fault of the layout itself
abbrev pub here : ChainFault → ChainRefusal
here fault = record { at = []; fault = fault }

-- a refusal of the sublayout that is signed by a key id for a step
abbrev pub under : List ℕ → List ℕ → ChainRefusal → ChainRefusal
under step id refusal = record { at = (step, id) ∷ refusal.at; fault = refusal.fault }

-- which sublayouts fail over which bundles, and how
abbrev pub Failing : Type 1
Failing = Layout → Contents → ChainRefusal → Type 0

-- where a layout can fail
pub data ChainPlace : Type 0 where
  at_expiry : ChainPlace
  at_id : Step → List ℕ → ChainPlace
  at_threshold : Step → ChainPlace
  at_records : Step → ChainPlace
  at_rules : Step → Side → ChainPlace

-- a step's places: each key id that the layout has, in the order of the ids' bytes, then the
-- threshold, then whether the records agree
abbrev pub step_places : Layout → Step → List ChainPlace
step_places layout step =
    map (at_id step) (keys layout.keys) ++ at_threshold step ∷ at_records step ∷ []

abbrev pub rule_places : Step → List ChainPlace
rule_places step = at_rules step Materials ∷ at_rules step Products ∷ []

-- all places in their order: expiry, the steps one by one, and then the rules of all steps
abbrev pub places : Layout → List ChainPlace
places layout =
    at_expiry ∷ flat_map (step_places layout) layout.steps ++ flat_map rule_places layout.steps

-- one text comes before another in the order of their bytes
abbrev pub IsBefore : List ℕ → List ℕ → Type 0
IsBefore a b = slice_cmp nat_cmp a b ≡ Less

module _ (sub : Holding) (fails : Failing) (setting : Setting) (layout : Layout)
    (bundle : Contents) where
  -- a key id has two bodies that count and differ (this profile's choice)
  pub record HasTwo (step : Step) (id : List ℕ) : Type 0 where
    pub payload : List ℕ
    pub other : List ℕ
    pub first : Counted setting layout bundle step id payload
    pub second : Counted setting layout bundle step id other
    pub differ : payload ≢ other

  -- the one body of a key id is a sublayout that fails
  pub record SublayoutFails (step : Step) (id : List ℕ) (refusal : ChainRefusal) : Type 0 where
    pub payload : List ℕ
    pub sublayout : Layout
    pub inner : ChainRefusal
    pub counted : Counted setting layout bundle step id payload
    pub one_body : (other : List ℕ) → Counted setting layout bundle step id other → payload ≡ other
    pub is_layout : LayoutOf payload sublayout
    pub fails_there : fails sublayout (folder_of step.name id bundle) inner
    pub refusal_is : refusal ≡ under step.name id inner

  -- fewer different keys than the threshold signed
  pub record TooFew (step : Step) (found : ℕ) : Type 0 where
    pub is_found : Found setting layout bundle step found
    pub below : found < step.threshold

  -- a key id is the least whose record differs from that of the least id that has one
  pub record IsLeastOther (step : Step) (id : List ℕ) : Type 0 where
    pub least : List ℕ
    pub expected : Recorded
    pub given : Recorded
    pub of_least : HasRecord sub setting layout bundle step least expected
    pub is_least : (other : List ℕ) (recorded : Recorded)
        → HasRecord sub setting layout bundle step other recorded → ¬ IsBefore other least
    pub of_id : HasRecord sub setting layout bundle step id given
    pub differs : given ≢ expected
    pub is_first : (other : List ℕ) (recorded : Recorded)
        → HasRecord sub setting layout bundle step other recorded → IsBefore other id
        → recorded ≡ expected

  -- over the records with which the steps hold, a step's rules on a side fail; the first to fail is
  -- the one at this index, with this path
  pub record RulesFail (step : Step) (side : Side) (index : ℕ) (path : List ℕ) : Type 0 where
    pub results : List StepResult
    pub result : StepResult
    pub steps : AllZip (StepHolds sub setting layout bundle) layout.steps results
    pub of_step : Contains (zip layout.steps results) (step, result)
    pub fault : IsFirstFault (rules_on side step) side (recorded_in result)
        (links_in results) index path

  -- a failure at a place
  abbrev pub StandsInChain : ChainPlace → ChainRefusal → Type 0
  StandsInChain at_expiry refusal = IsExpired setting layout × (refusal ≡ here Expired)
  StandsInChain (at_id step id) refusal =
      (HasTwo step id × (refusal ≡ here (TwoPayloads step.name id)))
      ⊎ SublayoutFails step id refusal
  StandsInChain (at_threshold step) refusal =
      (found : ℕ) × TooFew step found × (refusal ≡ here (Threshold step.name found step.threshold))
  StandsInChain (at_records step) refusal =
      (id : List ℕ) × IsLeastOther step id × (refusal ≡ here (Disagree step.name id))
  StandsInChain (at_rules step side) refusal =
      (index : ℕ) × (path : List ℕ) × RulesFail step side index path
      × (refusal ≡ here (RuleFailed (of_step step.name) side index path))

-- the first failure of a layout, given the results of its sublayouts
abbrev pub LevelFails : Holding → Failing → Setting → Failing
LevelFails sub fails setting layout bundle refusal =
    IsFirst (StandsInChain sub fails setting layout bundle) (places layout) refusal

-- a sublayout that is one level too deep fails for that alone
abbrev pub too_deep : Failing
too_deep layout bundle refusal = refusal ≡ here TooDeep

-- a sublayout with inspections fails for that alone (this profile's choice); any other fails with
-- its own failure
abbrev pub uninspected : Failing → Failing
uninspected fails layout bundle refusal =
    ((layout.inspections ≢ []) × (refusal ≡ here InspectionInSublayout))
    ⊎ ((layout.inspections ≡ []) × fails layout bundle refusal)

-- the first failure of a layout over a bundle, down to a depth of sublayouts
abbrev pub FirstChainFailure : Setting → ℕ → Failing
FirstChainFailure setting zero = LevelFails none_holds too_deep setting
FirstChainFailure setting (suc depth) =
    LevelFails (Chain setting depth) (uninspected (FirstChainFailure setting depth)) setting
