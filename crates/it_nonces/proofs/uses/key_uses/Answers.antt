use Rattle.std.proofs.Common.{Bor, map}
use Rattle.std.proofs.lemmas.Result.{IfOk-weaker}
use Rattle.it_dsse.specs.declared.envelope.Signature.{Signature}
use Rattle.it_nonces.specs.EnvelopeUses.{AreReadFrom, AreUses}
use Rattle.it_nonces.proofs.uses.key_uses.Goals as goal

pub returns : goal.returns
returns g c =
    let panel = g.C.Checks.panel c.args.checks.now in
    let n = g.C.Checks.number c.args.checks.now c.args.key.now in
    let signer = c.args.signer.now in
    let vouching = map (λ (s : Bor Signature). s.now) c.in_ok-vouching.vouching.items in
    IfOk-weaker c.read_uses.result (λ uses. AreReadFrom signer n vouching uses.items)
    (λ uses. AreUses panel c.args.envelope.now signer n uses.items)
    (λ uses are. record {
      vouching = vouching;
      are_those = rw c.as_str-id.ensures at c.in_ok-vouching.ensures;
      are_read = are;
    })
    (rw (c.name-name.ensures, c.as_slice.ensures.value) at c.read_uses.ensures)
