-- The test of a signature beside its definition, by the kind of the key.
use Rattle.std.proofs.Common.{◌↔◌, ℕ, List, IsTrue}
use Rattle.sha2.specs.Sha256.{sha256}
use Rattle.sha2.specs.Sha512.{sha384}
use Rattle.it_public_keys.specs.Keys.{IsSignature}
use Rattle.it_public_keys.specs.Validity.{is_signature_of}
use Rattle.it_public_keys.specs.declared.key.Key.{Key}
use Rattle.it_public_keys.specs.declared.key.Key.TheVariants.{Ed25519, P256, P384, Rsa}
use Rattle.it_public_keys.proofs.Ed25519Tests.{ed25519_decides}
use Rattle.it_public_keys.proofs.P256Tests.{p256_decides}
use Rattle.it_public_keys.proofs.P384Tests.{p384_decides}
use Rattle.it_public_keys.proofs.RsaTests.{rsa_decides}

pub test_is_signature : (key : Key) (message signature : List ℕ)
    → IsTrue (is_signature_of key message signature) ↔ IsSignature key message signature
test_is_signature (Ed25519 bytes) message signature = ed25519_decides bytes message signature
test_is_signature (P256 key) message signature = p256_decides key (sha256 message) signature
test_is_signature (P384 key) message signature = p384_decides key (sha384 message) signature
test_is_signature (Rsa key) message signature = rsa_decides key (sha256 message) signature
