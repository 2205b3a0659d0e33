-- What notes say about an artifact rule on what is delivered that failed (in-toto 1.0 section
-- 4.3.3; that there are such rules is this profile's choice).
use Rattle.std.specs.Prelude.{◌≡◌, ◌≢◌, ℕ, List, All, ⊤}
use Rattle.std.specs.FinMap.{empty}
use Rattle.it_digest.specs.Artifacts.{ArtifactMap}
use Rattle.it_docs.specs.declared.layout.Layout.{Layout}
use Rattle.it_docs.specs.declared.rule.Rule.{Rule}
use Rattle.it_docs.specs.declared.rule.Rule.TheVariants.{Match}
use Rattle.it_docs.specs.declared.rule.Side.TheVariants.{Products}
use Rattle.it_docs.specs.declared.step.Inspection.{Inspection}
use Rattle.it_chain.specs.StepRules.{links_in}
use Rattle.it_chain.specs.declared.chain.StepResult.{StepResult}
use Rattle.it_chain.specs.declared.refusal.RuleItem.TheVariants.{Deliver}
use Rattle.it_rule_notes.specs.Cause.{TellsCause}
use Rattle.it_rule_notes.specs.Met.{Judging, Meets}
use Rattle.it_rule_notes.specs.declared.judged_note.JudgedNote.{JudgedNote}
use Rattle.it_rule_notes.specs.declared.rule_place.RulePlace.{RulePlace}

-- the rules on what is delivered, over the delivered files, as products of no materials, and over
-- the records of the steps
abbrev pub delivery_judging : List Rule → ArtifactMap → List StepResult → Judging
delivery_judging rules delivered results = record {
  rules = rules;
  side = Products;
  item = record { materials = empty; products = delivered };
  links = links_in results;
}

-- the rule is no MATCH from an inspection, so that it looks at no record but those of steps
abbrev pub LooksAtSteps : List Inspection → Rule → Type 0
LooksAtSteps inspections (Match pattern source side target from) =
    All (λ (inspection : Inspection). inspection.name ≢ from) inspections
LooksAtSteps inspections rule = ⊤

-- the notes are on the rule at this place, and true of what is judged
pub record TellsJudged (judging : Judging) (place : RulePlace) (note : JudgedNote) : Type 0 where
  pub place_is : note.met.place ≡ place
  pub meets : Meets judging place.index note.met.met
  pub causes : All (TellsCause judging place) note.causes

-- where rules on what is delivered look at no record but those of steps: the rule at the index met
-- this, and this is why
pub record TellsDelivery (layout : Layout) (rules : List Rule) (delivered : ArtifactMap)
    (results : List StepResult) (index : ℕ) (note : JudgedNote) : Type 0 where
  pub look_at_steps : All (LooksAtSteps layout.inspections) rules
  pub tells : TellsJudged (delivery_judging rules delivered results)
      (record { item = Deliver; side = Products; index = index }) note
