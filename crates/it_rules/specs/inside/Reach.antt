-- What a rule with a prefix matches.
use Rattle.std.specs.Prelude.{◌≡◌, List, ℕ, ◌++◌}
use Rattle.it_rules.specs.FolderPrefix.{folder_prefix}
use Rattle.it_rules.specs.Rules.{IsMatch}

-- a pattern matches what follows a folder's prefix
abbrev pub IsMatchUnder : List ℕ → List ℕ → List ℕ → Type 0
IsMatchUnder pattern prefix path =
    (rest : List ℕ) × (path ≡ folder_prefix prefix ++ rest) × IsMatch pattern rest
