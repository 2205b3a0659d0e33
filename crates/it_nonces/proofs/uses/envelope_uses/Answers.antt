use Rattle.std.proofs.Common.{◌≡◌, codes, rules}
use Rattle.std.proofs.lemmas.Result.{IfOk-weaker}
use Rattle.it_nonces.specs.EnvelopeUses.{AreUses, EnvelopeUses}
use Rattle.it_nonces.proofs.UsesMore.{curve_uses}
use Rattle.it_nonces.proofs.uses.envelope_uses.Goals as goal

pub returns : goal.returns
returns g c =
    let panel = g.C.Checks.panel c.args.checks.now in
    let n = g.C.Checks.number c.args.checks.now c.in-Some.key in
    let scheme : c.args.object.now.scheme ≡ codes "ecdsa-sha2-nistp256" = search rules in
    IfOk-weaker c.key_uses.result
    (λ uses. AreUses panel c.args.envelope.now c.args.signer.now n uses.items)
    (λ uses. EnvelopeUses panel c.args.envelope.now c.args.signer.now c.args.object.now uses.items)
    (λ uses are. curve_uses panel c.args.envelope.now c.args.signer.now c.args.object.now n
    scheme (rw c.as_str-2.ensures at c.in-Some.ensures.key) uses.items are)
    c.key_uses.ensures
