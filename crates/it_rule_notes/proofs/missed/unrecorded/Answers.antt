use Rattle.std.proofs.Common.{◌≡◌, ◌∙◌, ap, sym}
use Rattle.std.specs.FinMap.{get}
use Rattle.it_rules.specs.Item.{artifacts_on, recorded_of}
use Rattle.it_rule_notes.proofs.Looking.{none_there}
use Rattle.it_rule_notes.proofs.missed.unrecorded.Goals as goal

pub returns : goal.returns
returns c = λ _.
    let target = c.args.target.now in
    let linked = recorded_of c.in-Some.link.now.item in
    let found : c.get.result ≡ get (artifacts_on target.side linked) target.path = c.get.ensures
    ∙ ap (λ m. get m c.as_str-2.result.now) c.artifacts_on-recorded.ensures
    ∙ ap (get (artifacts_on target.side linked)) c.as_str-2.ensures in
    record {
      linked = linked;
      is_named = rw c.as_str.ensures at c.in-Some.ensures;
      is_absent = sym found
          ∙ none_there c.get.result (sym c.is_some.ensures ∙ c.if-is_some.false);
      is_near = rw (c.artifacts_on-recorded.ensures, c.as_str-3.ensures) at c.in_ok-near.ensures;
    }
