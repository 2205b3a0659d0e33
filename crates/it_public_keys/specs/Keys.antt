-- Public keys of four kinds: Ed25519 (RFC 8032), ECDSA over P-256 with SHA-256 and over P-384 with
-- SHA-384 (FIPS 186-5), and RSASSA-PSS (RFC 8017). Which kinds there are is this profile's choice.
use Rattle.std.specs.Prelude.{ℕ, List}
use Rattle.it_ed25519.specs.PublicKey.{IsPublicKey}
use Rattle.it_ed25519.specs.Signature.{IsSignature as IsEd25519Signature}
use Rattle.it_p256.specs.Key.{IsKey as IsP256Key}
use Rattle.it_p256.specs.Signature.{IsSignature as IsP256Signature}
use Rattle.it_p384.specs.Key.{IsKey as IsP384Key}
use Rattle.it_p384.specs.Signature.{IsSignature as IsP384Signature}
use Rattle.it_rsa.specs.Key.{IsKey as IsRsaKey}
use Rattle.it_rsa.specs.Signature.{IsSignature as IsRsaSignature}
use Rattle.it_public_keys.specs.declared.key.Key.{Key}
use Rattle.it_public_keys.specs.declared.key.Key.TheVariants.{Ed25519, P256, P384, Rsa}

-- what its kind takes as a key
abbrev pub IsKey : Key → Type 0
IsKey (Ed25519 bytes) = IsPublicKey bytes
IsKey (P256 key) = IsP256Key key
IsKey (P384 key) = IsP384Key key
IsKey (Rsa key) = IsRsaKey key

-- the key's signature of a message, by its kind
abbrev pub IsSignature : Key → List ℕ → List ℕ → Type 0
IsSignature (Ed25519 bytes) message signature = IsEd25519Signature bytes message signature
IsSignature (P256 key) message signature = IsP256Signature key message signature
IsSignature (P384 key) message signature = IsP384Signature key message signature
IsSignature (Rsa key) message signature = IsRsaSignature key message signature
