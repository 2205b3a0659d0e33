-- The key objects that a refusal depends on and no check knows (words of this project).
use Rattle.std.specs.Prelude.{◌≡◌, ℕ, List, [], All, Contains}
use Rattle.it_docs.specs.Policy.{PolicyOf}
use Rattle.it_docs.specs.declared.policy.Expectation.{Expectation}
use Rattle.it_docs.specs.declared.policy.Policy.{Policy}
use Rattle.it_docs.specs.declared.step.Step.{Step}
use Rattle.it_dsse.specs.Panel.{Panel}
use Rattle.it_key_notes.specs.UnknownKeys.{IsUnknownIn, IsUnknownOfBuilders, IsUnknownUnder}
use Rattle.it_key_notes.specs.declared.unknown_key.UnknownKey.{UnknownKey}
use Rattle.it_prov.specs.Fits.{Fits}
use Rattle.it_report.specs.declared.refusal.Fault.{Fault}
use Rattle.it_report.specs.declared.refusal.Fault.TheVariants as faults
use Rattle.it_report.specs.declared.verdict.Verdict.{Verdict}
use Rattle.it_report.specs.declared.verdict.Verdict.TheVariants.{Accepted, Refused}
use Rattle.it_verify.specs.declared.inputs.Inputs.{Inputs}
use Rattle.it_notes.specs.Level.{IsLevel, Place}
use Rattle.it_notes.specs.declared.fault_level.FaultLevel.{FaultLevel}

module _ (panel : Panel) (inputs : Inputs) where
  -- the object is one of the policy's owners
  pub record IsOfOwner (note : UnknownKey) : Type 0 where
    pub policy : Policy
    pub is_policy : PolicyOf inputs.policy policy
    pub is_unknown : IsUnknownIn panel policy.owners note

  -- it is under a key id of the step of this name, in the layout to which these places lead
  pub record IsOfStep (at : List Place) (name : List ℕ) (note : UnknownKey) : Type 0 where
    pub level : FaultLevel
    pub step : Step
    pub is_level : IsLevel panel inputs at level
    pub in_layout : Contains level.signed.layout.steps step
    pub name_is : step.name ≡ name
    pub is_unknown : IsUnknownUnder panel step.pubkeys level.signed.layout.keys note

  -- it is a builder's key in the expectation that speaks of the path
  pub record IsOfBuilder (path : List ℕ) (note : UnknownKey) : Type 0 where
    pub policy : Policy
    pub expectation : Expectation
    pub is_policy : PolicyOf inputs.policy policy
    pub fits : Fits policy.expectations path expectation
    pub is_unknown : IsUnknownOfBuilders panel expectation.builders note

  -- it is one of those that the fault depends on
  abbrev pub TellsKey : List Place → Fault → UnknownKey → Type 0
  TellsKey at (faults.OwnerMissing id) note = IsOfOwner note
  TellsKey at (faults.Threshold step found needed) note = IsOfStep at step note
  TellsKey at (faults.NoProvenance path best) note = IsOfBuilder path note
  TellsKey at fault note = ⊥

  -- a refusal has only such notes; an accepted delivery has none
  abbrev pub TellsKeys : Verdict → List UnknownKey → Type 0
  TellsKeys (Accepted steps files) notes = notes ≡ []
  TellsKeys (Refused refusal) notes = All (TellsKey refusal.at refusal.fault) notes
