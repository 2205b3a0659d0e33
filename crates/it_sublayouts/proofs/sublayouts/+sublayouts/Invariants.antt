use Rattle.std.proofs.Common.{◌+◌, ◌*◌, take}
use Rattle.it_chain.specs.Chain.{holds_below}
use Rattle.it_chain.specs.declared.signers.Signer.{Signer}
use Rattle.it_sublayouts.specs.Counted.{InTurn, ListedForStep, setting_of}
use Rattle.it_sublayouts.specs.inside.Below.{AreAnswers, IdListed, Lists, listed_below}
use Rattle.it_sublayouts.proofs.sublayouts.+sublayouts.Given as goal

abbrev pub decreases-level_sublayouts : goal.decreases-level_sublayouts
decreases-level_sublayouts g l = 4 * l.level.now.depth + 3

abbrev pub decreases-step_sublayouts : goal.decreases-step_sublayouts
decreases-step_sublayouts g l = 4 * l.at.now.level.now.depth + 2

abbrev pub decreases-id_sublayouts : goal.decreases-id_sublayouts
decreases-id_sublayouts g l = 4 * l.at.now.level.now.depth + 1

abbrev pub decreases-with_those_below : goal.decreases-with_those_below
decreases-with_those_below g l = 4 * l.at.now.level.now.depth

-- those of the steps so far, and answers that are right
abbrev pub invariant-level_sublayouts-loop-step : goal.invariant-level_sublayouts-loop-step
invariant-level_sublayouts-loop-step g l =
    let level = l.level in
    let panel = g.C.Checks.panel l.walk.checks.now in
    let setting = setting_of panel level in
    Lists (InTurn (ListedForStep (listed_below setting level.depth)
    (holds_below setting level.depth) setting level.at.now level.layout.now level.links.now)
    (take l.step-index l.step-items)) l.fn.listed l.listed l.found.items
    × AreAnswers panel level l.answered

-- those under the key ids so far, and answers that are right
abbrev pub invariant-step_sublayouts-loop-signer : goal.invariant-step_sublayouts-loop-signer
invariant-step_sublayouts-loop-signer g l =
    let panel = g.C.Checks.panel l.walk.checks.now in
    Lists (InTurn (λ (signer : Signer). IdListed panel l.at signer.id.now)
    (take l.signer-index l.signer-items)) l.fn.listed l.listed l.found.items
    × AreAnswers panel l.at.level.now l.answered
