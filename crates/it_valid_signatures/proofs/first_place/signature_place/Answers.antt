use Rattle.std.proofs.lemmas.Result.{IfOk-weaker}
use Rattle.it_base.specs.Finds.{Finds}
use Rattle.it_dsse.specs.Signed.{Vouches, message_of}
use Rattle.it_valid_signatures.specs.FirstPlace.{IsFirstPlace, IsSignedAt}
use Rattle.it_valid_signatures.proofs.FirstSigned.{found_signed}
use Rattle.it_valid_signatures.proofs.first_place.signature_place.Goals as goal

pub returns : goal.returns
returns g c =
    let panel = g.C.Checks.panel c.args.checks.now in
    let envelope = c.args.envelope.now in
    let id = c.args.id.now in
    let object = c.args.object.now in
    let n = g.C.Checks.number c.args.checks.now c.in-Some.key in
    IfOk-weaker c.first_place.result
    (Finds (IsFirstPlace (Vouches panel id n (message_of envelope)) envelope.signatures))
    (Finds (IsSignedAt panel envelope id object))
    (found_signed panel envelope id object n c.in-Some.ensures.key)
    (rw (
      c.as_slice-2.ensures.value,
      c.in_ok-message.ensures,
      c.as_str-kind.ensures,
      c.as_slice.ensures,
      c.as_slice-signatures.ensures,
    ) at c.first_place.ensures)
