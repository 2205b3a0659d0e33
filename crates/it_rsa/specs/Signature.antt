-- Signatures of RSASSA-PSS (RFC 8017, section 8.1.2) with SHA-256.
use Rattle.std.specs.Prelude.{◌≡◌, ℕ, ◌+◌, ◌-◌, ◌*◌, ◌/◌, ◌<◌, List, length}
use Rattle.sha2.specs.Sha256.{sha256}
use Rattle.it_numbers.specs.Bytes.{big, big_bytes}
use Rattle.it_numbers.specs.Modular.{power_mod}
use Rattle.it_rsa.specs.Encoding.{IsEncoded}
use Rattle.it_rsa.specs.Key.{Key}

-- the length of the modulus in bits: the first of them is set
abbrev pub mod_bits : Key → ℕ
mod_bits key = 8 * length key.modulus

-- the length of an encoded message in bits, and in bytes
abbrev pub em_bits : Key → ℕ
em_bits key = mod_bits key - 1

abbrev pub em_length : Key → ℕ
em_length key = (em_bits key + 7) / 8

-- the message representative of a signature (section 5.2.2, RSAVP1)
abbrev pub representative : Key → List ℕ → ℕ
representative key signature = power_mod (big signature) key.exponent (big key.modulus)

-- the key's signature of a message with that digest
pub record IsSignatureOfDigest (key : Key) (digest signature : List ℕ) : Type 0 where
  pub long : length signature ≡ length key.modulus
  pub below : big signature < big key.modulus
  pub encoded : IsEncoded digest (big_bytes (em_length key) (representative key signature))
      (em_bits key)

-- the key's signature of a message
abbrev pub IsSignature : Key → List ℕ → List ℕ → Type 0
IsSignature key message signature = IsSignatureOfDigest key (sha256 message) signature
