use Rattle.it_notes.specs.Known.{IsKnown}
use Rattle.it_notes.proofs.Levels.{own_inputs}
use Rattle.it_notes.proofs.key_notes.key_notes.Goals as goal

pub returns-in-OwnerMissing-Begun : goal.returns-in-OwnerMissing-Begun
returns-in-OwnerMissing-Begun g c = λ inputs is_basis.
    let found = c.in-OwnerMissing-Begun in
    rw found.is-0 (c.owner_keys.ensures inputs (rw found.is-1 at is_basis).policy)

pub step_keys-requires : goal.step_keys-requires
step_keys-requires g c =
    let found = c.in-Threshold-Known in
    own_inputs (g.C.Checks.panel c.args.checks.now) c.requires.0 found.known
    (rw found.is-1 at c.requires.1)

pub returns-in-Threshold-Known : goal.returns-in-Threshold-Known
returns-in-Threshold-Known g c = λ inputs is_basis.
    let panel = g.C.Checks.panel c.args.checks.now in
    let found = c.in-Threshold-Known in
    let known : IsKnown panel inputs found.known = rw found.is-1 at is_basis in
    rw (found.is-0, ← known.inputs_are)
    (rw (c.as_slice.ensures, c.as_str.ensures) at c.step_keys.ensures)

pub returns-in-NoProvenance-Known : goal.returns-in-NoProvenance-Known
returns-in-NoProvenance-Known g c = λ inputs is_basis.
    let panel = g.C.Checks.panel c.args.checks.now in
    let found = c.in-NoProvenance-Known in
    let known : IsKnown panel inputs found.known = rw found.is-1 at is_basis in
    rw found.is-0 (rw c.as_str-in-NoProvenance-Known.ensures at
    (c.builder_keys.ensures inputs known.policy))
