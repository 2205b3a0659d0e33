-- What the bytes of every signature by a key are, whatever the message, so that other bytes are
-- refused with no arithmetic: the length (RFC 8032, section 5.1.7; RFC 8017, section 8.1.2), or the
-- encoding of two numbers (RFC 3279, section 2.2.3).
use Rattle.std.specs.Prelude.{◌≡◌, ℕ, ◌^◌, ◌<◌, List, length}
use Rattle.it_ecdsa_der.specs.Der.{IsSignatureValue}
use Rattle.it_public_keys.specs.declared.key.Key.{Key}
use Rattle.it_public_keys.specs.declared.key.Key.TheVariants.{Ed25519, P256, P384, Rsa}

-- the bytes encode two numbers of at most 256 bits
pub record EncodesNumbers (sig : List ℕ) : Type 0 where
  pub r : ℕ
  pub s : ℕ
  pub r_small : r < 2 ^ 256
  pub s_small : s < 2 ^ 256
  pub encoded : IsSignatureValue sig r s

-- the bytes encode two numbers, in at most 129 bytes
pub record EncodesAnyNumbers (sig : List ℕ) : Type 0 where
  pub r : ℕ
  pub s : ℕ
  pub encoded : IsSignatureValue sig r s

-- the bytes have the form of a signature by the key
abbrev pub HasForm : Key → List ℕ → Type 0
HasForm (Ed25519 bytes) sig = length sig ≡ 64
HasForm (P256 key) sig = EncodesNumbers sig
HasForm (P384 key) sig = EncodesAnyNumbers sig
HasForm (Rsa key) sig = length sig ≡ length key.modulus
