-- Which bytes are a public key (RFC 5280, section 4.1.2.7).
use Rattle.std.specs.Prelude.{◌≡◌, ℕ, List}
use Rattle.it_rsa.specs.Info.{info_of}
use Rattle.it_rsa.specs.Key.{Key, IsKey}

-- the bytes are the SubjectPublicKeyInfo of this key
pub record IsInfoOf (info : List ℕ) (key : Key) : Type 0 where
  pub is_key : IsKey key
  pub info_is : info ≡ info_of key
