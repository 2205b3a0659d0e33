-- What it means to miss the first of some conditions that are to be met, in an order.
use Rattle.std.specs.Prelude.{ℕ, ◌<◌, Option, Some, None}

-- this condition is missed, and those that have places before it are met
pub record IsFirstMissed (S : Type 0) (place_of : S → ℕ) (Meets : S → Type 0) (s : S)
    : Type 0 where
  pub missed : ¬ Meets s
  pub before : (earlier : S) → place_of earlier < place_of s → Meets earlier

-- the whole is so, or is not, and misses this condition
abbrev pub IsShortfall : {S : Type 0} → Type 0 → (S → Type 0) → Option S → Type 0
IsShortfall Whole Misses None = Whole
IsShortfall Whole Misses (Some s) = (¬ Whole) × Misses s
