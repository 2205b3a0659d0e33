use Rattle.it_certificate.specs.inside.Signed.{signed_parts}
use Rattle.it_certificate.proofs.Tags.{differs, agrees}
use Rattle.it_certificate.proofs.OneWay.{no_outer, no_inner, other_algorithm, certificate_is}
use Rattle.it_certificate.proofs.OneWay.{first_signed}
use Rattle.it_certificate.proofs.parts.read_parts.Goals as goal

pub returns-in_default-2 : goal.returns-in_default-2
returns-in_default-2 c =
    no_outer c.args.bytes.now c.in-Some.content.now c.in-Some.ensures (rw c.in_default-2.is at c.in_ok-outer.ensures)

pub returns-in_default-3 : goal.returns-in_default-3
returns-in_default-3 c =
    let outer = c.in-Some-2.outer in
    no_inner c.args.bytes.now c.in-Some.content.now outer.signed.now outer.algorithm.now outer.signature.now c.in-Some.ensures
    (rw c.in-Some-2.is at c.in_ok-outer.ensures) (rw c.in_default-3.is at c.in_ok-signed.ensures)

pub returns-then-ne : goal.returns-then-ne
returns-then-ne c =
    let outer = c.in-Some-2.outer in
    let signed = c.in-Some-3.signed in
    other_algorithm c.args.bytes.now c.in-Some.content.now outer.signed.now outer.algorithm.now outer.signature.now (signed_parts signed)
    c.in-Some.ensures (rw c.in-Some-2.is at c.in_ok-outer.ensures) (rw c.in-Some-3.is at c.in_ok-signed.ensures)
    (differs signed.algorithm.now outer.algorithm.now c.ne.result c.ne.ensures c.if-ne.true)

pub returns : goal.returns
returns c =
    let outer = c.in-Some-2.outer in
    let signed = c.in-Some-3.signed in
    let outer_is = rw c.in-Some-2.is at c.in_ok-outer.ensures in
    let inner_is = rw c.in-Some-3.is at c.in_ok-signed.ensures in (
      certificate_is c.args.bytes.now c.in-Some.content.now outer.signed.now outer.algorithm.now outer.signature.now (signed_parts signed)
          c.in-Some.ensures outer_is inner_is
          (agrees signed.algorithm.now outer.algorithm.now c.ne.result c.ne.ensures c.if-ne.false),
      first_signed c.in-Some.content.now outer.signed.now outer.algorithm.now outer.signature.now c.first_bytes.result.now (signed_parts signed)
          outer_is inner_is c.first_bytes.ensures,
    )
