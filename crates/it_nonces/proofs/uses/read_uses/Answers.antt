use Rattle.std.proofs.Common.{Bor, map, take}
use Rattle.it_dsse.specs.declared.envelope.Signature.{Signature}
use Rattle.it_dsse.proofs.Keeping.{cut}
use Rattle.it_nonces.proofs.UsesMore.{none_read, read_more}
use Rattle.it_nonces.proofs.uses.read_uses.Goals as goal

abbrev lent : Bor Signature → Signature
lent signature = signature.now

pub loop-signature-init : goal.loop-signature-init
loop-signature-init c =
    rw c.new-uses.ensures.items (none_read c.args.signer.now c.args.name.now)

pub loop-signature-preserved : goal.loop-signature-preserved
loop-signature-preserved c =
    let signatures = c.args.signatures.now in
    let i = c.loop-signature.signature-index in
    let signature = c.signature-item.result in
    rw (
      c.in_ok-push_some.ensures,
      cut lent signatures i signature c.loop-signature-test.true c.signature-item.is,
    )
    (read_more c.args.signer.now c.args.name.now (map lent (take i signatures))
    c.loop-signature.uses.items (lent signature) c.in_ok-found.found c.loop-signature.invariant
    c.in_ok-found.ensures)
