-- Signatures of RSASSA-PKCS1-v1_5 (RFC 8017, section 8.2) with SHA-256.
use Rattle.std.specs.Prelude.{◌≡◌, ℕ, ◌-◌, ◌<◌, List, [], ◌∷◌, ◌++◌, length, replicate}
use Rattle.sha2.specs.Sha256.{sha256}
use Rattle.it_numbers.specs.Bytes.{big, big_bytes}
use Rattle.it_rsa.specs.Key.{Key}
use Rattle.it_rsa.specs.Signature.{representative}

-- what comes before a SHA-256 in its DigestInfo, in DER (section 9.2, note 1)
abbrev pub digest_head : List ℕ
digest_head =
    48 ∷ 49 ∷ 48 ∷ 13 ∷ 6 ∷ 9 ∷ 96 ∷ 134 ∷ 72 ∷ 1 ∷ 101 ∷ 3 ∷ 4 ∷ 2 ∷ 1 ∷ 5 ∷ 0 ∷ 4 ∷ 32 ∷ []

-- the encoding EMSA-PKCS1-v1_5 of a message with that digest, in so many bytes (section 9.2): 0 and
-- 1, bytes of 255, a 0 and the DigestInfo of 51 bytes
unfoldable pub encoding_of : List ℕ → ℕ → List ℕ
encoding_of digest size = 0 ∷ 1 ∷ [] ++ replicate (size - 54) 255 ++ 0 ∷ [] ++ digest_head ++ digest

-- the key's signature of a message (section 8.2.2)
pub record IsPkcs1Signature (key : Key) (message signature : List ℕ) : Type 0 where
  pub long : length signature ≡ length key.modulus
  pub below : big signature < big key.modulus
  pub encoded : big_bytes (length key.modulus) (representative key signature)
      ≡ encoding_of (sha256 message) (length key.modulus)
