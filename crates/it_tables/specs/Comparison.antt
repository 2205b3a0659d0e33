-- Which rows agree (a format of this project).
use Rattle.std.specs.Prelude.{◌≡◌, ℕ, List, Option, String, MatchOption, codes}
use Rattle.std.specs.declared.alloc.Global.{Global}
use Rattle.serde_json.specs.Data.{Data}
use Rattle.it_base.specs.Parts.{IsPart}
use Rattle.it_base.specs.Text.{IsText}

-- how a given text differs from the one that a row wants: not at all where it is that text
pub record IsComparison (row : Data) (given : List ℕ) (difference : Option (String Global))
    : Type 0 where
  pub wanted : List ℕ
  pub is_wanted : IsPart IsText (codes "gives") row wanted
  pub none_where : MatchOption difference (given ≡ wanted) (λ _. ¬ given ≡ wanted)

-- how a row differs; what its call gives is left open
abbrev pub IsRowDifference : Data → Option (String Global) → Type 0
IsRowDifference row difference = (given : List ℕ) × IsComparison row given difference
