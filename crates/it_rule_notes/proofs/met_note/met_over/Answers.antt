use Rattle.std.proofs.Common.{◌≡◌, ◌∙◌, IfSome, ap}
use Rattle.std.proofs.lemmas.Result.{IfOk-weaker}
use Rattle.it_rules.specs.Item.{links_of, recorded_of}
use Rattle.it_chain.specs.StepRules.{links_in}
use Rattle.it_rule_notes.specs.Met.{Judging, Meets}
use Rattle.it_rule_notes.specs.MetNote.{MeetsOver, judging_of}
use Rattle.it_rule_notes.proofs.Meeting.{met_over_all}
use Rattle.it_rule_notes.proofs.met_note.met_over.Goals as goal

pub returns : goal.returns
returns c =
    let results = c.args.results.now in
    let step = c.args.step.now in
    let found = c.in-Some.found.now in
    let links : links_of c.as_slice.result.now ≡ links_in results =
    ap links_of c.as_slice.ensures.value ∙ c.in_ok-links.ensures in
    let judging : Judging = record {
      rules = c.rules_of_step.result.now;
      side = c.args.side;
      item = recorded_of c.item_of.result;
      links = links_of c.as_slice.result.now;
    } in
    let same : judging ≡ judging_of c.args.side step found results = λ i. record {
      rules = c.rules_of_step.ensures i;
      side = c.args.side;
      item = c.item_of.ensures i;
      links = links i;
    } in
    IfOk-weaker c.met_at.result (λ met. IfSome met (Meets judging c.args.index))
    (λ met. IfSome met (MeetsOver results step c.args.side c.args.index))
    (met_over_all results step c.args.side c.args.index found c.in-Some.ensures.0
    (c.in-Some.ensures.1 ∙ c.as_str.ensures) judging same) c.met_at.ensures
