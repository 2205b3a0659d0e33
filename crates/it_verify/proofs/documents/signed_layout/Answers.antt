use Rattle.std.proofs.Common.{refl}
use Rattle.std.proofs.lemmas.Result.{err_from_is_err_and}
use Rattle.it_prov.proofs.Asking.{raised_none}
use Rattle.it_verify.proofs.Unsigned.{other_type, owner_lacks, signed_or_lacks}
use Rattle.it_verify.proofs.documents.signed_layout.Goals as goal

pub returns-in_err-check_type-clause-layout : goal.returns-in_err-check_type-clause-layout
returns-in_err-check_type-clause-layout g c =
    let panel = g.C.Checks.panel c.args.checks.now in
    let p = err_from_is_err_and c.from_residual.result c.from_residual.ensures.1 in
    rw (p.1, p.2) (other_type panel c.args.envelope.now c.args.owners.now
    c.in_err-check_type.field-0.0 c.in_err-check_type.ensures.payload_type)

pub returns-in_err-check_owners-clause-layout : goal.returns-in_err-check_owners-clause-layout
returns-in_err-check_owners-clause-layout g c =
    let panel = g.C.Checks.panel c.args.checks.now in
    let p = err_from_is_err_and c.from_residual-in_err-check_owners.result
    c.from_residual-in_err-check_owners.ensures.1 in
    rw (p.1, p.2) (owner_lacks panel c.args.envelope.now c.args.owners.now
    c.in_ok-check_type.ensures.payload_type
    c.in_err-check_owners.field-0.0 c.in_err-check_owners.ensures.signed)

pub returns-clause-layout : goal.returns-clause-layout
returns-clause-layout g c =
    let panel = g.C.Checks.panel c.args.checks.now in
    signed_or_lacks panel c.args.envelope.now c.args.owners.now
    c.in_ok-check_type.ensures.payload_type c.in_ok-check_owners.ensures.signed
    c.layout_in.result (rw c.as_slice.ensures at c.layout_in.ensures.layout)

-- ---- the checks that were asked for
pub returns-in_err-check_type-clause-at_most : goal.returns-in_err-check_type-clause-at_most
returns-in_err-check_type-clause-at_most g c =
    raised_none _ c.args.meter.now c.args.meter.now refl
