use Rattle.sha2.specs.Sha512.{sha384}
use Rattle.std.proofs.lemmas.Bool.Decides.{same_from_decides}
use Rattle.it_message.specs.Message.{joined}
use Rattle.it_public_keys.specs.P256Test.{is_p256_signature}
use Rattle.it_public_keys.specs.P384Test.{is_p384_signature}
use Rattle.it_public_keys.specs.RsaTest.{is_rsa_signature}
use Rattle.it_public_keys.proofs.Ed25519Tests.{answer_is_test}
use Rattle.it_public_keys.proofs.P256Tests.{p256_decides}
use Rattle.it_public_keys.proofs.P384Tests.{p384_decides}
use Rattle.it_public_keys.proofs.RsaTests.{rsa_decides}
use Rattle.it_public_keys.proofs.key.Key.is_signature_with.Goals as goal

pub returns-in-Ed25519 : goal.returns-in-Ed25519
returns-in-Ed25519 c = rw c.in-Ed25519.is (answer_is_test c.in-Ed25519.key _ c.args.sig.now
    c.is_signature.result c.is_signature.ensures)

pub returns-in-P256 : goal.returns-in-P256
returns-in-P256 c = rw c.in-P256.is (same_from_decides c.is_signature_of_digest.result
    (is_p256_signature c.in-P256.key c.args.digest.now c.args.sig.now)
    c.is_signature_of_digest.ensures
    (p256_decides c.in-P256.key c.args.digest.now c.args.sig.now))

pub returns-in-P384 : goal.returns-in-P384
returns-in-P384 c = rw c.in-P384.is (same_from_decides c.is_signature-in-P384.result
    (is_p384_signature c.in-P384.key (sha384 (joined c.args.message.now)) c.args.sig.now)
    c.is_signature-in-P384.ensures
    (p384_decides c.in-P384.key (sha384 (joined c.args.message.now)) c.args.sig.now))

pub returns-in-Rsa : goal.returns-in-Rsa
returns-in-Rsa c = rw c.in-Rsa.is (same_from_decides c.is_signature_of_digest-in-Rsa.result
    (is_rsa_signature c.in-Rsa.key c.args.digest.now c.args.sig.now)
    c.is_signature_of_digest-in-Rsa.ensures
    (rsa_decides c.in-Rsa.key c.args.digest.now c.args.sig.now))
