-- Which bytes are a signature of a message under a public key of a kind.
use Rattle.std.specs.Prelude.{◌≡◌, ℕ, List, length}
use Rattle.it_ed25519.specs.PublicKey.{IsPublicKey}
use Rattle.it_ed25519.specs.Signature.{IsSignature as IsEd25519Signature}
use Rattle.it_p256.specs.Key.{Key as P256Key}
use Rattle.it_p256.specs.Signature.{IsSignature as IsP256Signature, IsSignatureOfDigest}
use Rattle.it_p384.specs.Key.{Key as P384Key}
use Rattle.it_p384.specs.Signature.{IsSignature as IsP384Signature}
use Rattle.it_p384.specs.Signature.{IsSignatureOfDigest as IsP384SignatureOfDigest}
use Rattle.it_rsa.specs.Key.{Key as RsaKey}
use Rattle.it_rsa.specs.Signature.{IsSignature as IsRsaSignature}
use Rattle.it_rsa_forms.specs.Info.{IsInfoOf}
use Rattle.it_rsa_forms.specs.Pkcs1.{IsPkcs1Signature}
use Rattle.it_rsa_forms.specs.Pss.{IsPssOfSalt}
use Rattle.it_vectors.specs.Key.{IsP256Info, IsP384Info, IsRsaInfo}
use Rattle.it_vectors.specs.declared.kind.Kind.{Kind}
use Rattle.it_vectors.specs.declared.kind.Kind.TheVariants.{Ed25519, P256, P256Digest, Rsa}
use Rattle.it_vectors.specs.declared.kind.Kind.TheVariants.{P384, P384Digest, RsaAnySalt, RsaPkcs1}

-- the bytes are a key of P-256, and its signature of a message with this digest of 32 bytes
abbrev pub IsSignedDigest : (info digest signature : List ℕ) → Type 0
IsSignedDigest info digest signature = (length digest ≡ 32)
    × ((key : P256Key) × IsP256Info info key × IsSignatureOfDigest key digest signature)

-- the bytes are a key of P-384, and its signature of a message with this digest of 48 bytes
abbrev pub IsP384SignedDigest : (info digest signature : List ℕ) → Type 0
IsP384SignedDigest info digest signature = (length digest ≡ 48)
    × ((key : P384Key) × IsP384Info info key × IsP384SignatureOfDigest key digest signature)

-- the bytes are a key of RSA, and its signature of a message with a salt of some length
abbrev pub HasSomeSalt : (info message signature : List ℕ) → Type 0
HasSomeSalt info message signature =
    (key : RsaKey) × (salt : ℕ) × IsInfoOf info key × IsPssOfSalt key message signature salt

-- the bytes are a public key of the kind, and its signature of the message
abbrev pub IsSignatureOf : Kind → (key message signature : List ℕ) → Type 0
IsSignatureOf Ed25519 key message signature =
    IsPublicKey key × IsEd25519Signature key message signature
IsSignatureOf P256 info message signature =
    (key : P256Key) × IsP256Info info key × IsP256Signature key message signature
IsSignatureOf P256Digest info digest signature = IsSignedDigest info digest signature
IsSignatureOf P384 info message signature =
    (key : P384Key) × IsP384Info info key × IsP384Signature key message signature
IsSignatureOf P384Digest info digest signature = IsP384SignedDigest info digest signature
IsSignatureOf Rsa info message signature =
    (key : RsaKey) × IsRsaInfo info key × IsRsaSignature key message signature
IsSignatureOf RsaPkcs1 info message signature =
    (key : RsaKey) × IsInfoOf info key × IsPkcs1Signature key message signature
IsSignatureOf RsaAnySalt info message signature = HasSomeSalt info message signature
