use Rattle.it_p256_limbs.specs.Numbers.{value_of}
use Rattle.it_p256.proofs.Encodings.{unread, read_judged}
use Rattle.it_p256.proofs.signature.is_signature_of_digest.Goals as goal

pub returns-in-None : goal.returns-in-None
returns-in-None c = unread c.args.key.now c.args.digest.now c.args.signature.now c.in-None.ensures

pub returns-in-Some : goal.returns-in-Some
returns-in-Some c =
    read_judged c.args.key.now c.args.digest.now c.args.signature.now _ (value_of c.in-Some.value.r) (value_of c.in-Some.value.s) _
    c.in-Some.ensures c.limbs_of.ensures c.is_signed.ensures
