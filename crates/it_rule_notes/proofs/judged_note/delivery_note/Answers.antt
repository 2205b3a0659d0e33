use Rattle.std.proofs.Common.{◌≡◌, ◌∙◌, List, All, IfSome, ap, subst, sym}
use Rattle.std.proofs.lemmas.Result.{IfOk-weaker}
use Rattle.it_docs.specs.declared.rule.Side.TheVariants.{Products}
use Rattle.it_docs.specs.declared.step.Inspection.{Inspection}
use Rattle.it_rules.specs.Item.{links_of}
use Rattle.it_rules.specs.Rules.{NamesDiffer}
use Rattle.it_chain.specs.StepRules.{links_in}
use Rattle.it_chain.specs.declared.refusal.RuleItem.TheVariants.{Deliver}
use Rattle.it_rule_notes.specs.Delivery.{LooksAtSteps, TellsDelivery, TellsJudged}
use Rattle.it_rule_notes.specs.Delivery.{delivery_judging}
use Rattle.it_rule_notes.specs.Met.{Judging}
use Rattle.it_rule_notes.specs.declared.rule_place.RulePlace.{RulePlace}
use Rattle.it_rule_notes.proofs.Delivering.{told_of_delivery}
use Rattle.it_rule_notes.proofs.judged_note.delivery_note.Goals as goal

pub judged_note-requires : goal.judged_note-requires
judged_note-requires c =
    let links : links_of c.as_slice-2.result.now ≡ links_in c.args.results.now =
    ap links_of c.as_slice-2.ensures.value ∙ c.in_ok-links.ensures in
    subst NamesDiffer (sym links) c.requires

pub returns : goal.returns
returns c =
    let rules = c.args.book.now.deliver.now in
    let delivered = c.args.delivered.now in
    let results = c.args.results.now in
    let layout = c.args.book.now.layout.now in
    let place : RulePlace = record { item = Deliver; side = Products; index = c.args.index } in
    let links : links_of c.as_slice-2.result.now ≡ links_in results =
    ap links_of c.as_slice-2.ensures.value ∙ c.in_ok-links.ensures in
    let look : All (LooksAtSteps layout.inspections) rules =
    subst (λ (all : List Inspection). All (LooksAtSteps all) rules) c.as_slice.ensures
    (c.look_at_steps.ensures.0 c.if-not-look_at_steps.false) in
    let judging : Judging = record {
      rules = rules;
      side = Products;
      item = record { materials = c.new-none.result; products = delivered };
      links = links_of c.as_slice-2.result.now;
    } in
    let same : judging ≡ delivery_judging rules delivered results = λ i. record {
      rules = rules;
      side = Products;
      item = record { materials = c.new-none.ensures i; products = delivered };
      links = links i;
    } in
    IfOk-weaker c.judged_note.result (λ found. IfSome found (TellsJudged judging place))
    (λ found. IfSome found (TellsDelivery layout rules delivered results c.args.index))
    (told_of_delivery layout rules delivered results c.args.index look judging same)
    c.judged_note.ensures
