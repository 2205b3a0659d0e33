-- What the functions that walk a level promise, in terms of what the level is checked with. Nothing
-- here is trusted.
use Rattle.std.specs.Prelude.{ℕ, List, [], ◌∷◌, Option, Result, map, flat_map}
use Rattle.std.specs.FinMap.{keys}
use Rattle.std.specs.List.{AllZip}
use Rattle.std.specs.declared.alloc.Global.{Global}
use Rattle.std.specs.declared.vec.Vec.{Vec}
use Rattle.it_dsse.specs.declared.envelope.Envelope.{Envelope}
use Rattle.it_dsse.specs.declared.meter.Meter.{Meter}
use Rattle.it_docs.specs.declared.layout.Layout.{Layout}
use Rattle.it_docs.specs.declared.step.Step.{Step}
use Rattle.it_rules.specs.Item.{Recorded}
use Rattle.it_chain.specs.Chain.{holds_below}
use Rattle.it_chain.specs.Contents.{Contents}
use Rattle.it_chain.specs.Cost.{Costing, LevelCosts, StepCosts, cost_below}
use Rattle.it_chain.specs.CountedBodies.{Setting}
use Rattle.it_chain.specs.Fewest.{LevelFewest, StepFewest, fewest_below}
use Rattle.it_chain.specs.First.{ChainPlace, at_id, places, step_places}
use Rattle.it_chain.specs.Judged.{AreStepRecords}
use Rattle.it_chain.specs.Level.{Holding, LevelHolds, StepHolds}
use Rattle.it_chain.specs.Raised.{RaisedAtLeast}
use Rattle.it_chain.specs.Sublayouts.{folder_of}
use Rattle.it_chain.specs.inside.Asked.{Asks, BodyCosts, BodyFewest, GivenFewest, IdCosts}
use Rattle.it_chain.specs.inside.Asked.{RecordsFewest, key_total, signature_count}
use Rattle.it_chain.specs.inside.Below.{StandsAt, fails_below}
use Rattle.it_chain.specs.Body.{as_body}
use Rattle.it_chain.specs.inside.IdRecords.{AreRecords, Gives}
use Rattle.it_chain.specs.inside.Sublayouts.{BodyComes, SublayoutComes}
use Rattle.it_chain.specs.inside.Walks.{Walks}
use Rattle.it_chain.specs.declared.body.Body.{Body as Held}
use Rattle.it_chain.specs.declared.chain.Chain.{Chain as ChainOf}
use Rattle.it_chain.specs.declared.chain.StepResult.{StepResult}
use Rattle.it_chain.specs.declared.judged.JudgedChain.{JudgedChain}
use Rattle.it_chain.specs.declared.record.IdRecord.{IdRecord}
use Rattle.it_chain.specs.declared.refusal.ChainError.{ChainError}
use Rattle.it_chain.specs.declared.refusal.ChainRefusal.{ChainRefusal}
use Rattle.it_chain.specs.declared.walk.Walk.{Walk}

-- what a level is checked with: setting, how deep sublayouts may be nested, layout and bundle
pub record Scope : Type 0 where
  pub setting : Setting
  pub depth : ℕ
  pub layout : Layout
  pub bundle : Contents

abbrev pub scope_of : {C : Type 0} → (C → Setting) → Walk C → Scope
scope_of setting walk =
    record {
      setting = setting walk.checking.now;
      depth = walk.level.depth;
      layout = walk.level.layout.now;
      bundle = walk.level.links.now;
    }

module _ (scope : Scope) where
  -- a failure at a place of the level
  abbrev pub StandsIn : ChainPlace → ChainRefusal → Type 0
  StandsIn = StandsAt scope.setting scope.depth scope.layout scope.bundle

  -- the results of the level's sublayouts, what they cost, and what they take at least
  abbrev pub below_holds : Holding
  below_holds = holds_below scope.setting scope.depth

  abbrev pub below_costs : Costing
  below_costs = cost_below scope.setting scope.depth

  abbrev pub below_takes : Costing
  below_takes = fewest_below scope.setting scope.depth

  -- ---- the level: no place has a failure and it holds with the records, or the first failure is
  -- answered; no more is asked than it costs, and for records no less than it takes
  abbrev pub LevelAnswers : Result ChainOf ChainError → Type 0
  LevelAnswers result =
      Walks StandsIn (places scope.layout)
      (λ chain. LevelHolds below_holds scope.setting scope.layout scope.bundle chain.steps) result

  -- the records with which its steps hold
  abbrev pub HoldsSteps : JudgedChain → Type 0
  HoldsSteps judged =
      AreStepRecords scope.setting scope.depth scope.layout scope.bundle judged.chain.steps

  abbrev pub LevelAsks : Meter → Meter → Result ChainOf ChainError → Type 0
  LevelAsks old new result =
      Asks (λ chain. key_total chain.steps)
      (LevelCosts below_costs scope.setting scope.layout scope.bundle) old new result

  abbrev pub LevelTakes : Meter → Meter → Type 0
  LevelTakes = RaisedAtLeast (LevelFewest below_takes scope.setting scope.layout scope.bundle)

  -- ---- its steps, without their rules
  abbrev pub StepsAnswer : Result (Vec StepResult Global) ChainError → Type 0
  StepsAnswer result =
      Walks StandsIn (flat_map (step_places scope.layout) scope.layout.steps)
      (λ results. AllZip (StepHolds below_holds scope.setting scope.layout scope.bundle)
      scope.layout.steps results.items) result

  abbrev pub StepsAsk : Meter → Meter → Result (Vec StepResult Global) ChainError → Type 0
  StepsAsk old new result =
      Asks (λ results. key_total results.items)
      (LevelCosts below_costs scope.setting scope.layout scope.bundle) old new result

  -- ---- a step
  abbrev pub StepAnswers : Step → Result StepResult ChainError → Type 0
  StepAnswers step result =
      Walks StandsIn (step_places scope.layout step)
      (StepHolds below_holds scope.setting scope.layout scope.bundle step) result

  abbrev pub StepAsks : Step → Meter → Meter → Result StepResult ChainError → Type 0
  StepAsks step old new result =
      Asks (λ found. found.keys)
      (StepCosts below_costs scope.setting scope.layout scope.bundle step) old new result

  abbrev pub StepTakes : Step → Meter → Meter → Type 0
  StepTakes step =
      RaisedAtLeast (StepFewest below_takes scope.setting scope.layout scope.bundle step)

  -- ---- the records of a step's key ids, from candidates with this many signatures
  abbrev pub RecordsAnswer : Step → Result (Vec IdRecord Global) ChainError → Type 0
  RecordsAnswer step result =
      Walks StandsIn (map (at_id step) (keys scope.layout.keys))
      (λ records. AreRecords below_holds scope.setting scope.layout scope.bundle step records.items)
      result

  abbrev pub IdCost : Step → List Envelope → List ℕ → ℕ → Type 0
  IdCost step found =
      IdCosts below_costs scope.setting scope.layout scope.bundle step (signature_count found)

  abbrev pub RecordsTake : Step → List IdRecord → Meter → Meter → Type 0
  RecordsTake step records =
      RaisedAtLeast (RecordsFewest below_takes scope.setting scope.layout scope.bundle step records)

  -- ---- the record of one key id, if it counts
  abbrev pub IdAnswers : Step → List ℕ → Result (Option IdRecord) ChainError → Type 0
  IdAnswers step id result =
      Walks StandsIn (at_id step id ∷ [])
      (Gives below_holds scope.setting scope.layout scope.bundle step id) result

  abbrev pub IdTakes : Step → Option IdRecord → Meter → Meter → Type 0
  IdTakes step given =
      RaisedAtLeast (GivenFewest below_takes scope.setting scope.layout scope.bundle step given)

  -- ---- the body of a key id
  abbrev pub BodyAnswers : List ℕ → List ℕ → Held → Result Recorded ChainError → Type 0
  BodyAnswers step id body result =
      BodyComes below_holds (fails_below scope.setting scope.depth) scope.bundle step id
      (as_body body) result

  abbrev pub BodyCost : List ℕ → List ℕ → Held → ℕ → Type 0
  BodyCost step id body = BodyCosts below_costs scope.bundle step id (as_body body)

  abbrev pub BodyTakes : List ℕ → List ℕ → Held → Meter → Meter → Type 0
  BodyTakes step id body =
      RaisedAtLeast (BodyFewest below_takes scope.bundle step id (as_body body))

  -- ---- a sublayout over its own folder
  abbrev pub SublayoutAnswers : List ℕ → List ℕ → Layout → Result ChainOf ChainError → Type 0
  SublayoutAnswers step id layout result =
      SublayoutComes below_holds (fails_below scope.setting scope.depth) layout
      (folder_of step id scope.bundle) result

  abbrev pub SublayoutCost : List ℕ → List ℕ → Layout → ℕ → Type 0
  SublayoutCost step id layout = below_costs layout (folder_of step id scope.bundle)

  abbrev pub SublayoutTakes : List ℕ → List ℕ → Layout → Meter → Meter → Type 0
  SublayoutTakes step id layout =
      RaisedAtLeast (below_takes layout (folder_of step id scope.bundle))
