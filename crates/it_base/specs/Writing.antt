-- What was written to a writer.
use Rattle.std.specs.Prelude.{ℕ, ◌≤◌, List, length, take, Option}
use Rattle.std.specs.Io.KnownBytes.{Appends}

-- a prefix of the bytes was written
abbrev pub AppendsBeginning : Option (List ℕ) → Option (List ℕ) → List ℕ → Type 0
AppendsBeginning old new bytes = (n : ℕ) × (n ≤ length bytes) × Appends old new (take n bytes)
