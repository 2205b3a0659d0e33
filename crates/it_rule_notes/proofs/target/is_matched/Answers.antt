use Rattle.std.proofs.Common.{◌∙◌, arith, refl, sym}
use Rattle.std.proofs.lemmas.Option.{slice_get_read, slice_get_within}
use Rattle.it_docs.specs.declared.rule.Rule.{Rule}
use Rattle.it_rules.proofs.Listed.{places_more}
use Rattle.it_rule_notes.specs.Missed.{LooksFor}
use Rattle.it_rule_notes.specs.declared.target.Target.{Target}
use Rattle.it_rule_notes.proofs.Looking.{none_found}
use Rattle.it_rule_notes.proofs.target.is_matched.Goals as goal

pub loop-place-preserved : goal.loop-place-preserved
loop-place-preserved c = λ place rule target below is.
    let rules = c.args.judged.now.rules.now in
    let path = c.args.path.now in
    let here = slice_get_read rules _ c.loop-place.place c.rule-item.result refl
    c.loop-place-test.true c.rule-item.is in
    places_more (λ (r : Rule). (t : Target) → ¬ LooksFor r path t) rules c.loop-place.place
    c.rule-item.result (λ k r less at t. c.loop-place.invariant k r t less at) here
    (none_found (LooksFor c.rule-item.result path) c.in_ok-found.found c.in_ok-found.ensures
    (sym c.is_some.ensures ∙ c.if-is_some.false)) place rule below is target

pub returns : goal.returns
returns c = λ place rule target below is. c.loop-place.invariant place rule target
    (let within = slice_get_within c.args.judged.now.rules.now place rule is in omega arith) is

pub returns-then-place-index : goal.returns-then-place-index
returns-then-place-index c = λ place rule target below is.
    c.loop-place.invariant place rule target (omega arith) is
