use Rattle.std.proofs.Common.{Bor, map, take}
use Rattle.it_dsse.specs.Signed.{AreThose, Vouches, message_of}
use Rattle.it_dsse.specs.declared.envelope.Signature.{Signature}
use Rattle.it_valid_signatures.proofs.valid.valid_signatures.Given as goal

-- those of the signatures so far that vouch
abbrev pub invariant-loop-signature : goal.invariant-loop-signature
invariant-loop-signature g l =
    AreThose (Vouches (g.C.Checks.panel l.checks) l.id (g.C.Checks.number l.checks l.key)
    (message_of l.envelope)) (take l.signature-index l.signature-items)
    (map (λ (s : Bor Signature). s.now) l.kept.items)
