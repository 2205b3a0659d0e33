-- What is read of the tokens of a text. Nothing here is trusted.
use Rattle.std.specs.Prelude.{◌≡◌, ◌↔◌, ◌<◌, ℕ, List, length, Bool, Option, None, Some}
use Rattle.std.specs.Prelude.{IsTrue, MatchOption}
use Rattle.json.specs.Find.{get, get_member}
use Rattle.json.specs.Json.{Json, string, Members, members, value}
use Rattle.json.specs.Token.{Token}
use Rattle.serde_json.specs.Read.{max_depth}

-- how deep the members of a document nest at most
abbrev pub below : ℕ
below = 126

-- a value comes, which is the text or not; or none comes
abbrev pub IsValueRead : List Token → List Token → List ℕ → Option Bool → Type 0
IsValueRead old new text found = MatchOption found (value below old ≡ None)
    (λ is. (j : Json) × (value below old ≡ Some (j, new)) × (length new < length old)
    × (IsTrue is ↔ (j ≡ string text)))

-- the members of an object come, of which the last of this name is the text or not; or they do not
abbrev pub AreRead : List Token → List Token → List ℕ → List ℕ → Option Bool → Type 0
AreRead old new name text found =
    MatchOption found (members (value below) (length old) old ≡ None)
    (λ has. (ms : Members) × (members (value below) (length old) old ≡ Some (ms, new))
    × (IsTrue has ↔ (get_member name ms ≡ Some (string text))))

-- a document comes that is an object whose last member of this name is the text, exactly if it is
-- so
pub record IsRead (old new : List Token) (name text : List ℕ) (has : Bool) : Type 0 where
  pub here : IsTrue has → (j : Json) × (value max_depth old ≡ Some (j, new))
      × (get name j ≡ Some (string text))
  pub only : (j : Json) (rest : List Token) → value max_depth old ≡ Some (j, rest)
      → get name j ≡ Some (string text) → IsTrue has × (rest ≡ new)
