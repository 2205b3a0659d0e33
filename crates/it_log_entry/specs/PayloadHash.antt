-- The hash of a payload in the body of an entry (Rekor's entries of kinds `dsse` and `intoto`).
use Rattle.std.specs.Prelude.{ℕ, List, codes}
use Rattle.hex.specs.Hex.{encode_lower}
use Rattle.serde_json.specs.Data.{Data}
use Rattle.sha2.specs.Sha256.{sha256}
use Rattle.it_base.specs.Parts.{IsPart}
use Rattle.it_base.specs.Text.{IsText}

-- the SHA-256 of this payload, in lower-case hexadecimal digits
pub record IsPayloadHash (d : Data) (payload : List ℕ) : Type 0 where
  pub algorithm : IsPart IsText (codes "algorithm") d (codes "sha256")
  pub value : IsPart IsText (codes "value") d (encode_lower (sha256 payload))
