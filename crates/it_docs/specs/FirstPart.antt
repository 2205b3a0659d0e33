-- The first part of a document that fails.
use Rattle.std.specs.Prelude.{◌≡◌, ◌⊎◌, ℕ, ◌<◌}

-- the order of places: by row, and then by the number in the row
abbrev pub Precedes : ℕ × ℕ → ℕ × ℕ → Type 0
Precedes a b = (a.0 < b.0) ⊎ ((a.0 ≡ b.0) × (a.1 < b.1))

-- the part fails, and each part at an earlier place reads
pub record IsFirstPart {Part : Type 0} (place : Part → ℕ × ℕ) (Reads : Part → Type 0) (part : Part)
    : Type 0 where
  pub fails : ¬ Reads part
  pub before : (other : Part) → Precedes (place other) (place part) → Reads other
