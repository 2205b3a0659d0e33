-- The encoded message that a signature opens to (RFC 8017, section 5.2.2).
use Rattle.std.specs.Prelude.{◌≡◌, ℕ, ◌<◌, List, length}
use Rattle.it_numbers.specs.Bytes.{big, big_bytes}
use Rattle.it_rsa.specs.Key.{Key}
use Rattle.it_rsa.specs.Signature.{representative}
use Rattle.it_rsa_forms.specs.Info.{IsInfoOf}

-- the signature is a number below the modulus in as many bytes
pub record IsNumberFor (key : Key) (signature : List ℕ) : Type 0 where
  pub long : length signature ≡ length key.modulus
  pub below : big signature < big key.modulus

-- by the key of these bytes, the signature opens to the encoded message
pub record OpensTo (info signature em : List ℕ) : Type 0 where
  pub key : Key
  pub has : IsInfoOf info key
  pub number : IsNumberFor key signature
  pub em_is : em ≡ big_bytes (length key.modulus) (representative key signature)
