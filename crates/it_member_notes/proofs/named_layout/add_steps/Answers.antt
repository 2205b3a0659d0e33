use Rattle.it_docs.specs.declared.step.Step.{Step}
use Rattle.it_member_notes.proofs.Names.{names_more}
use Rattle.it_member_notes.proofs.named_layout.add_steps.Goals as goal

pub loop-step-preserved : goal.loop-step-preserved
loop-step-preserved c =
    names_more (λ (s : Step). s.name) c.args.steps.now c.loop-step.step-index c.step-item.result
    c.loop-step.names _ c.loop-step-test.true c.step-item.is c.in_ok-add.ensures.kept
    c.in_ok-add.ensures.has c.loop-step.invariant
