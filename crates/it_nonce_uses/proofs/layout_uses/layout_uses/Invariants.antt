use Rattle.std.proofs.Common.{take}
use Rattle.it_findings.specs.Joined.{JoinedEach}
use Rattle.it_nonce_uses.specs.LayoutUses.{StepUses}
use Rattle.it_nonce_uses.proofs.layout_uses.layout_uses.Given as goal

-- those for the steps so far
abbrev pub invariant-loop-step : goal.invariant-loop-step
invariant-loop-step g l =
    JoinedEach (StepUses (g.C.Checks.panel l.checks) l.level.at.now l.level.layout.now
    l.level.links.now) (take l.step-index l.step-items) l.uses.items
