use Rattle.std.proofs.Common.{◌≡◌, drop}
use Rattle.it_dsse.specs.Check.{Check}
use Rattle.it_message.specs.Message.{joined}
use Rattle.it_dsse.specs.Meter.{raised}
use Rattle.it_dsse.specs.Vouched.{is_vouched_by, tries_by}
use Rattle.it_dsse.proofs.check.SignatureCheck.any_valid.Given as goal

-- the answer and the count are those of the signatures that are left
abbrev pub invariant-loop-signature : goal.invariant-loop-signature
invariant-loop-signature g l =
    let check : Check = g.Self.SignatureCheck.meaning l.self in
    let left = drop l.signature-index l.signatures in
    record {
      found : is_vouched_by check l.id l.key (joined l.message) left
          ≡ is_vouched_by check l.id l.key (joined l.message) l.signatures;
      counted : raised l.meter (tries_by check l.id l.key (joined l.message) left)
          ≡ raised l.fn.meter (tries_by check l.id l.key (joined l.message) l.signatures);
    }
