use Rattle.std.proofs.Common.{◌≡◌, ◌∙◌, arith, subst, take, take_all}
use Rattle.it_findings.specs.Joined.{JoinedEach}
use Rattle.it_findings.proofs.Joining.{joined_more}
use Rattle.it_nonce_uses.specs.LayoutUses.{StepUses}
use Rattle.it_nonce_uses.proofs.layout_uses.layout_uses.Goals as goal

pub loop-step-preserved : goal.loop-step-preserved
loop-step-preserved g c =
    let level = c.args.level.now in
    rw c.in_ok-append.ensures.items
    (joined_more (λ place step here. StepUses (g.C.Checks.panel c.args.checks.now) level.at.now
    level.layout.now level.links.now step here) c.as_slice-step-items.result.now
    c.loop-step.step-index c.step-item.result c.loop-step.uses.items c.in_ok-here.here.items
    c.loop-step-test.true c.step-item.is c.loop-step.invariant c.in_ok-here.ensures)

pub returns : goal.returns
returns g c =
    let level = c.args.level.now in
    let items = c.as_slice-step-items.result.now in
    let all : take c.loop-step.step-index items ≡ level.layout.now.steps =
    take_all c.loop-step.step-index items (omega arith) ∙ c.as_slice-step-items.ensures in
    subst (λ steps. JoinedEach (StepUses (g.C.Checks.panel c.args.checks.now) level.at.now
    level.layout.now level.links.now) steps c.loop-step.uses.items) all c.loop-step.invariant
