use Rattle.std.proofs.Common.{◌≡◌, ◌∙◌, List, arith, subst, take, take_all}
use Rattle.std.specs.List.{AllZip}
use Rattle.it_base.proofs.Elements.{zip_more}
use Rattle.it_docs.specs.declared.step.Step.{Step}
use Rattle.it_chain.specs.CountedBodies.{Setting}
use Rattle.it_step_evidence.specs.StepEvidence.{IsStepEvidence}
use Rattle.it_step_evidence.proofs.evidence.step_evidence.Goals as goal

pub loop-step-preserved : goal.loop-step-preserved
loop-step-preserved g c = λ moment.
    let setting : Setting = record { panel = g.C.Checks.panel c.args.checks.now; moment = moment } in
    rw c.in_ok-push.ensures.items
    (zip_more (IsStepEvidence setting c.args.layout.now c.args.bundle.now)
    c.as_slice-step-items.result.now c.loop-step.step-index c.step-item.result
    c.loop-step.found.items c.in_ok-evidence_of.field-0 c.loop-step-test.true c.step-item.is
    (c.loop-step.invariant moment) (c.in_ok-evidence_of.ensures moment))

pub returns : goal.returns
returns g c = λ moment.
    let setting : Setting = record { panel = g.C.Checks.panel c.args.checks.now; moment = moment } in
    let all : take c.loop-step.step-index c.as_slice-step-items.result.now
    ≡ c.args.layout.now.steps =
    take_all c.loop-step.step-index c.as_slice-step-items.result.now (omega arith)
    ∙ c.as_slice-step-items.ensures in
    subst (λ (steps : List Step). AllZip (IsStepEvidence setting c.args.layout.now
    c.args.bundle.now) steps c.loop-step.found.items) all (c.loop-step.invariant moment)
