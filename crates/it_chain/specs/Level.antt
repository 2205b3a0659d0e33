-- When one layout holds for a bundle, given the results of its sublayouts (in-toto 1.0 section 5.2,
-- verifying the final product).
use Rattle.std.specs.Prelude.{◌≡◌, ℕ, ◌≤◌, List, []}
use Rattle.std.specs.List.{AllZip}
use Rattle.it_docs.specs.declared.layout.Layout.{Layout}
use Rattle.it_docs.specs.declared.step.Step.{Step}
use Rattle.it_rules.specs.Item.{Recorded}
use Rattle.it_chain.specs.Contents.{Contents}
use Rattle.it_chain.specs.CountedBodies.{Setting, Body, of_link, of_layout, BodyOf, Counted}
use Rattle.it_chain.specs.Threshold.{Found}
use Rattle.it_chain.specs.Sublayouts.{folder_of}
use Rattle.it_chain.specs.declared.chain.StepResult.{StepResult}
use Rattle.it_chain.specs.Summary.{summary}
use Rattle.it_chain.specs.StepRules.{recorded_in, links_in, StepRulesHold}
use Rattle.it_chain.specs.Expiry.{IsExpired}

-- which layouts hold for which bundles, and with which records of their steps
abbrev pub Holding : Type 1
Holding = Layout → Contents → List StepResult → Type 0

-- a body of a key id yields these artifacts: a link yields what it records, a sublayout without
-- inspections the summary of its steps over its own folder
abbrev pub Records : Holding → Contents → List ℕ → List ℕ → Body → Recorded → Type 0
Records sub bundle step id (of_link link) recorded =
    recorded ≡ record { materials = link.materials; products = link.products }
Records sub bundle step id (of_layout layout) recorded =
    (results : List StepResult) × (layout.inspections ≡ [])
    × sub layout (folder_of step id bundle) results × (recorded ≡ summary results)

module _ (sub : Holding) (setting : Setting) (layout : Layout) (bundle : Contents) where
  -- a key id has these artifacts recorded for a step: a body that counts yields them
  pub record HasRecord (step : Step) (id : List ℕ) (recorded : Recorded) : Type 0 where
    pub payload : List ℕ
    pub body : Body
    pub counted : Counted setting layout bundle step id payload
    pub reads : BodyOf step.name payload body
    pub records : Records sub bundle step.name id body recorded

  -- a step holds with this record: no id has two bodies, each body that counts yields the record,
  -- and enough different keys signed (that all must agree, even beyond the threshold, is this
  -- profile's choice)
  pub record StepHolds (step : Step) (result : StepResult) : Type 0 where
    pub name : result.name ≡ step.name
    pub one_body : (id payload other : List ℕ) → Counted setting layout bundle step id payload
        → Counted setting layout bundle step id other → payload ≡ other
    pub agree : (id payload : List ℕ) → Counted setting layout bundle step id payload
        → HasRecord step id (recorded_in result)
    pub keys : Found setting layout bundle step result.keys
    pub threshold : step.threshold ≤ result.keys

-- a layout holds with these records, one for each step: it has not expired at the moment, each step
-- holds, and so do the rules of each step over these records
pub record LevelHolds (sub : Holding) (setting : Setting) (layout : Layout) (bundle : Contents)
    (results : List StepResult) : Type 0 where
  pub unexpired : ¬ IsExpired setting layout
  pub steps : AllZip (StepHolds sub setting layout bundle) layout.steps results
  pub rules : AllZip (StepRulesHold (links_in results)) layout.steps results
