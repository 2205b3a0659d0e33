use Rattle.it_numbers.specs.Bytes.{big}
use Rattle.it_p384.proofs.Encodings.{unread, read_judged}
use Rattle.it_p384.proofs.signature.is_signature_of_digest.Goals as goal

pub returns-in-None : goal.returns-in-None
returns-in-None c = unread c.args.key.now c.args.digest.now c.args.signature.now c.in-None.ensures

pub returns-in-Some : goal.returns-in-Some
returns-in-Some c =
    read_judged c.args.key.now c.args.digest.now c.args.signature.now (big c.in-Some.value.r.now) (big c.in-Some.value.s.now) _
    c.in-Some.ensures c.is_signed.ensures
