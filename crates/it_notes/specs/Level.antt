-- The layout that a refusal is about (in-toto 1.0 sections 4.4 and 5.2; how a place is named is
-- this profile's choice).
use Rattle.std.specs.Prelude.{◌≡◌, ℕ, List, [], ◌∷◌, None, Some, IfSome}
use Rattle.it_chain.specs.Contents.{folder_at}
use Rattle.it_chain.specs.Judged.{AreStepRecords}
use Rattle.it_chain.specs.Sublayouts.{folder_name}
use Rattle.it_docs.specs.Moment.{MomentOf}
use Rattle.it_dsse.specs.Panel.{Panel}
use Rattle.it_rule_notes.specs.CountingFile.{setting_of}
use Rattle.it_step_notes.specs.SignedLayout.{IsSignedLayout}
use Rattle.it_step_notes.specs.Sublayout.{LeadsDown}
use Rattle.it_verify.specs.declared.inputs.Inputs.{Inputs}
use Rattle.it_notes.specs.declared.fault_level.FaultLevel.{FaultLevel}

-- the names of a step and of the key id that signed a sublayout for it
abbrev pub Place : Type 0
Place = List ℕ × List ℕ

-- the next layout is a sublayout that was signed at the place, its files are in this folder, its
-- moment is the same, and the records of its steps are not at hand
pub record IsBelow (panel : Panel) (level : FaultLevel) (place : Place) (next : FaultLevel)
    : Type 0 where
  pub leads : LeadsDown panel level.signed.layout level.links.now place.0 place.1 next.signed
  pub folder_is :
      folder_at (folder_name place.0 place.1) level.links.now ≡ Some next.links.now
  pub moment_is : next.moment ≡ level.moment
  pub no_steps : next.steps ≡ None

-- the places lead down from one layout to another, the outermost place first
abbrev pub LeadsTo : Panel → FaultLevel → List Place → FaultLevel → Type 0
LeadsTo panel level [] below = below ≡ level
LeadsTo panel level (place ∷ rest) below =
    (next : FaultLevel) × IsBelow panel level place next × LeadsTo panel next rest below

-- the given layout, over the given links and at the given moment
pub record IsTop (inputs : Inputs) (level : FaultLevel) : Type 0 where
  pub is_layout : IsSignedLayout inputs.layout level.signed
  pub links_are : level.links.now ≡ inputs.links
  pub moment_is : MomentOf inputs.moment level.moment

-- the places lead down from that layout to this one
pub record IsLevel (panel : Panel) (inputs : Inputs) (at : List Place) (level : FaultLevel)
    : Type 0 where
  pub top : FaultLevel
  pub is_top : IsTop inputs top
  pub leads : LeadsTo panel top at level

-- the records of the layout's steps, where they are at hand
abbrev pub StepsStand : Panel → ℕ → FaultLevel → Type 0
StepsStand panel depth level =
    IfSome level.steps (AreStepRecords (setting_of panel level.moment) depth level.signed.layout
    level.links.now)

-- the places lead down to this layout, and its steps have these records, where they are at hand
pub record IsReached (panel : Panel) (inputs : Inputs) (at : List Place) (level : FaultLevel)
    : Type 0 where
  pub is_level : IsLevel panel inputs at level
  pub steps : StepsStand panel inputs.depth level
