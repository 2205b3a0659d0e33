-- The expectations that are the first to speak of some path. Nothing here is trusted.
use Rattle.std.specs.Borrow.{Bor}
use Rattle.std.specs.Prelude.{ℕ, List, Any}
use Rattle.it_pattern_index.specs.FirstMatch.{IsFirstMatch}

-- the pattern at a place is the first to match one of some paths
abbrev pub IsUsed : List (List ℕ) → List (Bor (List ℕ)) → ℕ → Type 0
IsUsed patterns paths place = Any (λ path. IsFirstMatch patterns path.now place) paths
