-- Lists whose first bad item is named.
use Rattle.std.specs.Prelude.{◌≡◌, ◌⊎◌, ℕ, ◌<◌}

-- the part that fails in a list with a part for the whole and one for each item: the whole, or the
-- first item that cannot be read
abbrev pub IsNumberedPart : {Part : Type 0} → (Part → Type 0) → Part → (ℕ → Part) → Part → Type 0
IsNumberedPart Reads whole item part =
    ((part ≡ whole) × ¬ Reads whole)
    ⊎ ((n : ℕ) × (part ≡ item n)
    × (Reads whole × (¬ Reads (item n)) × ((m : ℕ) → m < n → Reads (item m))))
