-- Labels of PEM texts (RFC 7468, section 2).
use Rattle.std.specs.Prelude.{◌≡◌, ℕ, List, ◌∷◌, ◌++◌, codes}
use Rattle.std.specs.Str.Lines.{lines}

-- the first line of a text with this label
abbrev pub begin_line : List ℕ → List ℕ
begin_line label = codes "-----BEGIN " ++ (label ++ codes "-----")

-- a text begins with that line
pub record HasLabel (text label : List ℕ) : Type 0 where
  pub rest : List (List ℕ)
  pub begins : lines text ≡ begin_line label ∷ rest
