-- Whether a signature is valid, as a test, by the kind of the key.
use Rattle.std.specs.Prelude.{ℕ, List, Bool}
use Rattle.sha2.specs.Sha256.{sha256}
use Rattle.sha2.specs.Sha512.{sha384}
use Rattle.it_public_keys.specs.Ed25519Test.{is_ed25519_signature}
use Rattle.it_public_keys.specs.P256Test.{is_p256_signature}
use Rattle.it_public_keys.specs.P384Test.{is_p384_signature}
use Rattle.it_public_keys.specs.RsaTest.{is_rsa_signature}
use Rattle.it_public_keys.specs.declared.key.Key.{Key}
use Rattle.it_public_keys.specs.declared.key.Key.TheVariants.{Ed25519, P256, P384, Rsa}

-- of the message, or of what has the digest, by the key's kind: P-384 signs another digest, so it
-- takes the message
abbrev pub is_signature_with : Key → List ℕ → List ℕ → List ℕ → Bool
is_signature_with (Ed25519 bytes) digest message sig = is_ed25519_signature bytes message sig
is_signature_with (P256 key) digest message sig = is_p256_signature key digest sig
is_signature_with (P384 key) digest message sig = is_p384_signature key (sha384 message) sig
is_signature_with (Rsa key) digest message sig = is_rsa_signature key digest sig

-- the digest is the message's SHA-256
abbrev pub is_signature_of : Key → List ℕ → List ℕ → Bool
is_signature_of key message sig = is_signature_with key (sha256 message) message sig
