use Rattle.std.proofs.Common.{◌∙◌, map}
use Rattle.it_chain.specs.CountedBodies.{Setting}
use Rattle.it_step_evidence.proofs.ClaimedFor.{lent}
use Rattle.it_step_evidence.proofs.Keys.{step_evident}
use Rattle.it_step_evidence.proofs.evidence.evidence_of.Goals as goal

pub returns : goal.returns
returns g c = λ moment.
    let setting : Setting = record { panel = g.C.Checks.panel c.args.checks.now; moment = moment } in
    let step = c.args.step.now in
    step_evident setting c.args.layout.now c.args.bundle.now step
    (map lent c.in_ok-claimed.claimed.items)
    (rw (c.as_str-name.ensures, c.files.ensures) at c.in_ok-claimed.ensures)
    c.in_ok-keys.keys.items
    (rw c.as_slice.ensures.value at c.in_ok-keys.ensures) _
    (c.in_ok-copy.ensures ∙ c.as_str-name.ensures) c.from.ensures
