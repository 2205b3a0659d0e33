use Rattle.std.proofs.Common.{◌≡◌, ◌∙◌, ap, sym}
use Rattle.std.specs.FinMap.{get}
use Rattle.it_rules.specs.Item.{artifacts_on, recorded_of}
use Rattle.it_rule_notes.specs.inside.JudgedRules.{judging_in}
use Rattle.it_rule_notes.proofs.missed.miss_of.Goals as goal

pub returns-in_default : goal.returns-in_default
returns-in_default c = rw c.as_str-from.ensures at c.in_default.ensures

pub returns-in_default-get : goal.returns-in_default-get
returns-in_default-get c =
    let target = c.args.target.now in
    let linked = recorded_of c.in-Some.link.now.item in
    let found : c.get.result ≡ get (artifacts_on target.side linked) target.path = c.get.ensures
    ∙ ap (λ m. get m c.as_str-place.result.now) c.artifacts_on-recorded.ensures
    ∙ ap (get (artifacts_on target.side linked)) c.as_str-place.ensures in
    record {
      linked = linked;
      is_named = rw c.as_str-from.ensures at c.in-Some.ensures;
      is_absent = sym found ∙ c.in_default-get.is;
      is_near = tt;
    }

pub returns : goal.returns
returns c =
    let target = c.args.target.now in
    let linked = recorded_of c.in-Some.link.now.item in
    let found : c.get.result ≡ get (artifacts_on target.side linked) target.path = c.get.ensures
    ∙ ap (λ m. get m c.as_str-place.result.now) c.artifacts_on-recorded.ensures
    ∙ ap (get (artifacts_on target.side linked)) c.as_str-place.ensures in
    let here = c.get-2.ensures
    ∙ ap (λ m. get m c.args.path.now) c.artifacts_on-artifacts.ensures in
    c.miss_between.ensures (judging_in c.args.judged.now) target c.args.path.now (record {
      linked = linked;
      is_named = rw c.as_str-from.ensures at c.in-Some.ensures;
      stands_there = sym found ∙ c.in-Some-get.is;
      stands_here = sym here ∙ c.in_ok-here.was;
    })
