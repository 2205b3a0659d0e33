use Rattle.std.proofs.Common.{◌≡◌, IfSome}
use Rattle.std.proofs.lemmas.Result.{IfOk-weaker}
use Rattle.it_chain.proofs.StepRecords.{records_differ}
use Rattle.it_chain.specs.declared.refusal.RuleItem.TheVariants.{Deliver}
use Rattle.it_docs.specs.declared.rule.Side.TheVariants.{Products}
use Rattle.it_rule_notes.specs.CountingFile.{setting_of}
use Rattle.it_rule_notes.specs.Delivery.{TellsDelivery}
use Rattle.it_rule_notes.specs.declared.rule_place.RulePlace.{RulePlace}
use Rattle.it_notes.proofs.Delivering.{told_at}
use Rattle.it_notes.specs.RefusalNotes.{TellsDeliveryAt}
use Rattle.it_notes.proofs.delivered.delivery_told.Goals as goal

pub delivery_note-requires : goal.delivery_note-requires
delivery_note-requires c =
    let level = c.args.level.now in
    rw c.as_slice-results.ensures (records_differ (setting_of c.requires.0 level.moment)
    c.args.known.now.inputs.now.depth level.signed.layout level.links.now c.in-Some.steps
    (rw c.in-Some.is at c.requires.1))

pub returns : goal.returns
returns c = λ panel known steps.
    let level = c.args.level.now in
    let inputs = c.args.known.now.inputs.now in
    let place : RulePlace = c.args.place.now in
    let policy = c.args.known.now.policy in
    let same : place ≡ record { item = Deliver; side = Products; index = place.index } =
    λ i. record { item = c.in-Deliver.is i; side = c.in-Products.is i; index = place.index } in
    IfOk-weaker c.delivery_note.result
    (λ found. IfSome found (TellsDelivery level.signed.layout policy.deliver
    c.args.known.now.delivered c.in-Some.steps place.index))
    (λ found. IfSome found (TellsDeliveryAt panel inputs level place))
    (told_at panel inputs level place policy c.args.known.now.delivered c.in-Some.steps
    known.policy known.delivered (rw c.in-Some.is at steps) same)
    (rw (c.as_slice-rules.ensures, c.as_slice-results.ensures) at c.delivery_note.ensures)
