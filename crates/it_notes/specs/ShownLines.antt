-- The lines of notes that people read (this profile's choice): at most forty.
use Rattle.std.specs.Prelude.{◌≡◌, ◌++◌, ◌∷◌, ◌-◌, ◌^◌, [], ℕ, List, codes, decimal, length, map}
use Rattle.std.specs.Prelude.{if◌then◌else◌, min, nat_le, take}
use Rattle.it_notes.specs.declared.lines.Lines.{Lines}

-- how many lines there are, as far as 64 bits can say it
abbrev pub count_of : List (List ℕ) → ℕ
count_of lines = min (length lines) (2 ^ 64 - 1)

-- the line that says how many notes have none
abbrev pub further_line : ℕ → List ℕ
further_line count = decimal count ++ codes " further notes\n"

-- of all lines those that are written: all of them; where there are more than 40, the first 39, and
-- how many further ones there are
abbrev pub shown_lines : List (List ℕ) → List (List ℕ)
shown_lines lines =
    if nat_le (count_of lines) 40 then lines
    else take 39 lines ++ further_line (count_of lines - 39) ∷ []

-- of all lines the first 40 are kept, and how many there are
pub record Hold (lines : Lines) (all : List (List ℕ)) : Type 0 where
  pub first : map (λ line. line.items) lines.lines.items ≡ take 40 all
  pub counted : lines.count ≡ count_of all

-- these lines were added after all lines
abbrev pub Adds : List (List ℕ) → Lines → Lines → Type 0
Adds lines old new = (all : List (List ℕ)) → Hold old all → Hold new (all ++ lines)
