-- Pieces of lines (this project's words).
use Rattle.std.specs.Prelude.{ℕ, List, ◌++◌, codes}
use Rattle.it_report.specs.Name.{name_form}

-- a name in quotation marks
unfoldable pub quoted : List ℕ → List ℕ
quoted name = codes "\"" ++ name_form name ++ codes "\""

-- such a name between two texts
unfoldable pub told_form : List ℕ → List ℕ → List ℕ → List ℕ
told_form before name after = before ++ quoted name ++ after
