-- Where files lie apart, a path is one thing.
use Rattle.std.specs.Prelude.{◌≡◌, ℕ, List}
use Rattle.it_memory.specs.Files.{AreApart, HasBelow, HasFile}

-- a path has one content, and is no folder where it is a file
abbrev pub APathIsOneThing : Type 0
APathIsOneThing =
    (files : List (List ℕ × List ℕ)) (path bytes other : List ℕ) → AreApart files
    → HasFile files path bytes
    → (HasFile files path other → bytes ≡ other) × (¬ HasBelow files path)
