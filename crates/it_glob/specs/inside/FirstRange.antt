-- The ranges of a set, one after another.
use Rattle.std.specs.Prelude.{◌≡◌, ℕ, ◌<◌, List, ◌∷◌, length}
use Rattle.it_glob.specs.inside.Ranges.{range_between, written_ranges}

-- a body begins with the range from the first character to the last, and the rest follows
pub record IsFirstRange (body : List ℕ) (first last : ℕ) (rest : List ℕ) : Type 0 where
  pub splits : written_ranges body ≡ range_between first last ∷ written_ranges rest
  pub shorter : length rest < length body
