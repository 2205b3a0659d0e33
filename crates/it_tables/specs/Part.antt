-- What the parts of a row mean (a format of this project).
use Rattle.std.specs.Prelude.{◌≡◌, ℕ, List, Bool, Some, MatchOption, codes, option_and_then}
use Rattle.serde_json.specs.Data.{Data}
use Rattle.serde_json.specs.Find.{as_bool, as_number, as_str, as_u64}
use Rattle.it_base.specs.HexadecimalText.{IsHexadecimal}
use Rattle.it_base.specs.Parts.{IsPart}

-- the part is a text with these bytes, or an object whose member `hex` encodes them
abbrev pub IsBytes : Data → List ℕ → Type 0
IsBytes d bytes = MatchOption (as_str d) (IsPart IsHexadecimal (codes "hex") d bytes)
    (λ text. text ≡ bytes)

-- the part is this number
abbrev pub IsNumber : Data → ℕ → Type 0
IsNumber d n = option_and_then as_u64 (as_number d) ≡ Some n

-- the part is this truth value
abbrev pub IsBoolean : Data → Bool → Type 0
IsBoolean d b = as_bool d ≡ Some b
