-- What any hasher makes of all that a reader gives.
use Rattle.std.specs.Prelude.{ℕ, ◌≤◌, List, length, Option}
use Rattle.std.specs.Io.KnownBytes.{Consumes, IsAtEnd}

-- the reader reached its end, gave at most limit bytes on the way, and the digest is of them
pub record IsOfRest {Output : Type 0} (IsDigestOf : List ℕ → Output → Type 0)
    (old new : Option (List ℕ)) (limit : ℕ) (digest : Output) : Type 0 where
  pub bytes : List ℕ
  pub given : Consumes old new bytes
  pub at_end : IsAtEnd new
  pub within_limit : length bytes ≤ limit
  pub is_digest : IsDigestOf bytes digest
