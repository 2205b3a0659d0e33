-- What is told of rules on what is delivered.
use Rattle.std.proofs.Common.{◌≡◌, ℕ, List, All, Option, Some, None, IfSome, subst}
use Rattle.it_digest.specs.Artifacts.{ArtifactMap}
use Rattle.it_docs.specs.declared.layout.Layout.{Layout}
use Rattle.it_docs.specs.declared.rule.Rule.{Rule}
use Rattle.it_docs.specs.declared.rule.Side.TheVariants.{Products}
use Rattle.it_chain.specs.declared.chain.StepResult.{StepResult}
use Rattle.it_chain.specs.declared.refusal.RuleItem.TheVariants.{Deliver}
use Rattle.it_rule_notes.specs.Delivery.{LooksAtSteps, TellsDelivery, TellsJudged}
use Rattle.it_rule_notes.specs.Delivery.{delivery_judging}
use Rattle.it_rule_notes.specs.Met.{Judging}
use Rattle.it_rule_notes.specs.declared.judged_note.JudgedNote.{JudgedNote}

module _ (layout : Layout) (rules : List Rule) (delivered : ArtifactMap) (results : List StepResult)
    (index : ℕ) (look : All (LooksAtSteps layout.inspections) rules) (judging : Judging)
    (same : judging ≡ delivery_judging rules delivered results) where
  -- what is told of the judging is told of the delivery
  pub told_of_delivery : (found : Option JudgedNote)
      → IfSome found (TellsJudged judging
      (record { item = Deliver; side = Products; index = index }))
      → IfSome found (TellsDelivery layout rules delivered results index)
  told_of_delivery None told = tt
  told_of_delivery (Some note) told = record {
    look_at_steps = look;
    tells = subst (λ (j : Judging). TellsJudged j
        (record { item = Deliver; side = Products; index = index }) note) same told;
  }
