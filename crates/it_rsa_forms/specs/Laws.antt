-- What is shown of these definitions.
use Rattle.std.specs.Prelude.{◌↔◌, ℕ, List}
use Rattle.it_rsa.specs.Key.{Key}
use Rattle.it_rsa.specs.Signature.{IsSignature}
use Rattle.it_rsa_forms.specs.Pss.{IsPssOfSalt}

-- with a salt of 32 bytes it is the signature that is taken
abbrev pub SaltOf32IsTaken : Type 0
SaltOf32IsTaken = (key : Key) (message signature : List ℕ)
    → IsPssOfSalt key message signature 32 ↔ IsSignature key message signature
