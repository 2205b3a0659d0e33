use Rattle.std.proofs.Common.{Bor, map, take}
use Rattle.it_dsse.specs.declared.envelope.Signature.{Signature}
use Rattle.it_nonces.specs.EnvelopeUses.{AreReadFrom}
use Rattle.it_nonces.proofs.uses.read_uses.Given as goal

-- those of the signatures so far that have numbers
abbrev pub invariant-loop-signature : goal.invariant-loop-signature
invariant-loop-signature l =
    AreReadFrom l.signer l.name (map (λ (s : Bor Signature). s.now)
    (take l.signature-index l.signatures)) l.uses.items
