use Rattle.std.proofs.Common.{◌≢◌, All, arith, subst}
use Rattle.std.proofs.lemmas.List.{take_all}
use Rattle.std.proofs.lemmas.List.Elements.{All-more}
use Rattle.std.proofs.lemmas.Slice.Eq.{bytes_eq-Decides}
use Rattle.it_docs.specs.declared.step.Step.{Step}
use Rattle.it_docs.proofs.step.step_named.Goals as goal

pub loop-step-preserved : goal.loop-step-preserved
loop-step-preserved c =
    let other : c.step-item.result.name ≢ c.args.name.now =
    λ e. (let same = (bytes_eq-Decides _ _).1 e in cc (same, c.as_str.ensures, c.eq.ensures, c.if-eq.false)) in
    All-more (λ (step : Step). step.name ≢ c.args.name.now) c.args.steps.now
    c.loop-step.step-index c.step-item.result c.loop-step-test.true c.loop-step.invariant
    (subst (λ (step : Step). step.name ≢ c.args.name.now) c.step-item.is other)

pub returns : goal.returns
returns c =
    subst (All (λ (step : Step). step.name ≢ c.args.name.now))
    (take_all c.loop-step.step-index c.args.steps.now (omega (arith, c.loop-step-test.false)))
    c.loop-step.invariant
