-- What is told of a rule on what is delivered.
use Rattle.std.proofs.Common.{◌≡◌, ◌∙◌, List, Option, Some, None, IfSome, sym}
use Rattle.it_chain.specs.Judged.{AreStepRecords}
use Rattle.it_chain.specs.declared.chain.StepResult.{StepResult}
use Rattle.it_chain.specs.declared.refusal.RuleItem.TheVariants.{Deliver}
use Rattle.it_digest.specs.Artifacts.{ArtifactMap}
use Rattle.it_digest.specs.Listed.{AreListed}
use Rattle.it_docs.specs.Policy.{PolicyOf}
use Rattle.it_docs.specs.declared.policy.Policy.{Policy}
use Rattle.it_docs.specs.declared.rule.Side.TheVariants.{Products}
use Rattle.it_dsse.specs.Panel.{Panel}
use Rattle.it_rule_notes.specs.CountingFile.{setting_of}
use Rattle.it_rule_notes.specs.Delivery.{TellsDelivery}
use Rattle.it_rule_notes.specs.declared.judged_note.JudgedNote.{JudgedNote}
use Rattle.it_rule_notes.specs.declared.rule_place.RulePlace.{RulePlace}
use Rattle.it_verify.specs.declared.inputs.Inputs.{Inputs}
use Rattle.it_notes.specs.RefusalNotes.{TellsDeliveryAt}
use Rattle.it_notes.specs.declared.fault_level.FaultLevel.{FaultLevel}

module _ (panel : Panel) (inputs : Inputs) (level : FaultLevel) (place : RulePlace)
    (policy : Policy) (delivered : ArtifactMap) (results : List StepResult)
    (is_policy : PolicyOf inputs.policy policy)
    (reads : AreListed inputs.sums inputs.sums512 delivered)
    (records : AreStepRecords (setting_of panel level.moment) inputs.depth level.signed.layout
    level.links.now results)
    (same : place ≡ record { item = Deliver; side = Products; index = place.index }) where
  -- what is told of the delivery is told of the rule at the place
  pub told_at : (found : Option JudgedNote)
      → IfSome found (TellsDelivery level.signed.layout policy.deliver delivered results place.index)
      → IfSome found (TellsDeliveryAt panel inputs level place)
  told_at None told = tt
  told_at (Some note) told = record {
    policy = policy;
    delivered = delivered;
    results = results;
    is_policy = is_policy;
    reads = reads;
    are_records = records;
    place_is = told.tells.place_is ∙ sym same;
    tells = told;
  }
