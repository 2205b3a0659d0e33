use Rattle.std.proofs.Common.{All, arith, refl, subst, sym, true}
use Rattle.std.proofs.lemmas.List.{take_all}
use Rattle.std.proofs.lemmas.List.Elements.{All-get_or, All-more, All-nil}
use Rattle.it_rule_notes.specs.Delivery.{LooksAtSteps}
use Rattle.it_rule_notes.proofs.judged_note.look_at_steps.Goals as goal

pub loop-rule-init : goal.loop-rule-init
loop-rule-init c = All-nil (LooksAtSteps c.args.inspections.now)

pub loop-rule-preserved : goal.loop-rule-preserved
loop-rule-preserved c =
    let P = LooksAtSteps c.args.inspections.now in
    All-more P c.args.rules.now c.loop-rule.rule-index c.rule-item.result c.loop-rule-test.true
    c.loop-rule.invariant
    (subst P c.rule-item.is (c.looks_at_steps.ensures.0 c.if-not-looks_at_steps.false))

pub returns-then-not-looks_at_steps : goal.returns-then-not-looks_at_steps
returns-then-not-looks_at_steps c =
    let P = LooksAtSteps c.args.inspections.now in (
      λ h. absurd (cc h),
      λ all. absurd (let looks = c.looks_at_steps.ensures.1 (subst P (sym c.rule-item.is)
          (All-get_or P c.args.rules.now c.loop-rule.rule-index c.rule-item.result
          c.loop-rule-test.true all)) in cc (looks, c.if-not-looks_at_steps.true)),
    )

pub returns : goal.returns
returns c =
    let P = LooksAtSteps c.args.inspections.now in
    let whole = take_all c.loop-rule.rule-index c.args.rules.now (omega arith) in (
      λ _. subst (All P) whole c.loop-rule.invariant,
      λ _. refl,
    )
