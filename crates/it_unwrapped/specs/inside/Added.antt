-- Lines that are added to bytes.
use Rattle.std.specs.Prelude.{◌≡◌, ℕ, List, ◌∷◌, ◌++◌}
use Rattle.it_digest.specs.Sums.{lines_of}
use Rattle.it_unwrapped.specs.Lines.{IsUnwrapped}

-- a line feed after these bytes ends one line, whatever follows
abbrev pub IsOneLine : List ℕ → Type 0
IsOneLine line = (more : List ℕ) → lines_of (line ++ 10 ∷ more) ≡ line ∷ lines_of more

-- what replaces a line was added to the bytes, and is one line if that was one
pub record IsAdded (line old new : List ℕ) : Type 0 where
  pub out : List ℕ
  pub unwrapped : IsUnwrapped line out
  pub new_is : new ≡ old ++ out
  pub one_line : IsOneLine line → IsOneLine out
