-- Which bytes are a public key of a kind.
use Rattle.std.specs.Prelude.{◌≡◌, ℕ, List}
use Rattle.it_ed25519.specs.PublicKey.{IsPublicKey}
use Rattle.it_p256.specs.Key.{Key as P256Key, IsKey as IsP256Key, info_of as p256_info}
use Rattle.it_p384.specs.Key.{Key as P384Key, IsKey as IsP384Key, info_of as p384_info}
use Rattle.it_rsa.specs.Info.{info_of as rsa_info}
use Rattle.it_rsa.specs.Key.{Key as RsaKey, IsKey as IsRsaKey}
use Rattle.it_vectors.specs.declared.kind.Kind.{Kind}
use Rattle.it_vectors.specs.declared.kind.Kind.TheVariants.{Ed25519, P256, P256Digest, Rsa}
use Rattle.it_vectors.specs.declared.kind.Kind.TheVariants.{P384, P384Digest, RsaAnySalt, RsaPkcs1}

-- the bytes are the SubjectPublicKeyInfo of this key of P-256
pub record IsP256Info (bytes : List ℕ) (key : P256Key) : Type 0 where
  pub is_key : IsP256Key key
  pub info_is : bytes ≡ p256_info key

-- the bytes are the SubjectPublicKeyInfo of this key of P-384
pub record IsP384Info (bytes : List ℕ) (key : P384Key) : Type 0 where
  pub is_key : IsP384Key key
  pub info_is : bytes ≡ p384_info key

-- the bytes are the SubjectPublicKeyInfo of this key of RSA
pub record IsRsaInfo (bytes : List ℕ) (key : RsaKey) : Type 0 where
  pub is_key : IsRsaKey key
  pub info_is : bytes ≡ rsa_info key

-- the bytes are a public key of the kind
abbrev pub IsKeyOf : Kind → List ℕ → Type 0
IsKeyOf Ed25519 bytes = IsPublicKey bytes
IsKeyOf P256 bytes = (key : P256Key) × IsP256Info bytes key
IsKeyOf P256Digest bytes = (key : P256Key) × IsP256Info bytes key
IsKeyOf P384 bytes = (key : P384Key) × IsP384Info bytes key
IsKeyOf P384Digest bytes = (key : P384Key) × IsP384Info bytes key
IsKeyOf Rsa bytes = (key : RsaKey) × IsRsaInfo bytes key
IsKeyOf RsaPkcs1 bytes = (key : RsaKey) × IsRsaInfo bytes key
IsKeyOf RsaAnySalt bytes = (key : RsaKey) × IsRsaInfo bytes key
