use Rattle.it_bundle_vectors.proofs.Finding.{for_none, for_one, no_bundle, no_root}
use Rattle.it_bundle_vectors.proofs.found.is_vouched_for.Goals as goal

pub returns-in_default : goal.returns-in_default
returns-in_default c =
    no_root c.args.vector.now (rw (c.in_default.is, c.as_bytes.ensures.value, c.as_str.ensures) at c.in_ok-root.ensures)

pub returns-in_default-2 : goal.returns-in_default-2
returns-in_default-2 c =
    no_bundle c.args.vector.now (rw (c.in_default-2.is, c.as_bytes-2.ensures.value, c.as_str-2.ensures) at c.in_ok-bundle.ensures)

pub returns-in_default-3 : goal.returns-in_default-3
returns-in_default-3 c =
    for_none c.args.vector.now c.in-Some.root c.in-Some-2.bundle
    (rw (c.in-Some.is, c.as_bytes.ensures.value, c.as_str.ensures) at c.in_ok-root.ensures)
    (rw (c.in-Some-2.is, c.as_bytes-2.ensures.value, c.as_str-2.ensures) at c.in_ok-bundle.ensures)
    (rw (c.in_default-3.is, c.in_ok-trust.ensures.answer) at c.in_ok-identity.ensures.answer)

pub returns : goal.returns
returns c =
    for_one c.args.vector.now c.in-Some.root c.in-Some-2.bundle c.in-Some-3.identity c.is_wanted.result
    (rw (c.in-Some.is, c.as_bytes.ensures.value, c.as_str.ensures) at c.in_ok-root.ensures)
    (rw (c.in-Some-2.is, c.as_bytes-2.ensures.value, c.as_str-2.ensures) at c.in_ok-bundle.ensures)
    (rw (c.in-Some-3.is, c.in_ok-trust.ensures.answer) at c.in_ok-identity.ensures.answer) c.is_wanted.ensures
