-- How a note shows a name, an id or a path (this profile's choice).
use Rattle.std.specs.Prelude.{ℕ, List, [], ◌∷◌, codes}
use Rattle.it_report.specs.Name.{name_form}

-- a name as reports write it, but an empty one as two quotes
abbrev pub shown_form : List ℕ → List ℕ
shown_form [] = codes "\"\""
shown_form (byte ∷ bytes) = name_form (byte ∷ bytes)
