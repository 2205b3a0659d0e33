-- Numbers in the JSON form of Sigstore's messages: whole numbers of 64 bits, as texts of decimal
-- digits (the JSON form of protobuf). This profile's choices: a JSON number is none, and the
-- greatest is 2 ^ 53 - 1, up to which JSON in its canonical form (RFC 8785) has the same digits.
use Rattle.std.specs.Prelude.{◌≡◌, ℕ, ◌^◌, ◌<◌, List, MatchOption, decimal}
use Rattle.serde_json.specs.Data.{Data}
use Rattle.serde_json.specs.Find.{as_str}

-- the text is this number
pub record IsNumberText (text : List ℕ) (n : ℕ) : Type 0 where
  pub digits_are : text ≡ decimal n
  pub small : n < 2 ^ 53

-- the part is a text that is this number
abbrev pub IsNumber : Data → ℕ → Type 0
IsNumber d n = MatchOption (as_str d) ⊥ (λ text. IsNumberText text n)
