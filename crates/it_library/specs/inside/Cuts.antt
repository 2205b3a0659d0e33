-- Bytes, cut after their first part.
use Rattle.std.specs.Prelude.{◌≡◌, ◌++◌, ◌∷◌, ℕ, List, Contains, length}

-- the text is the first of those in the bytes, and the rest follows its zero byte
pub record IsFirst (bytes text rest : List ℕ) : Type 0 where
  pub bytes_are : bytes ≡ text ++ 0 ∷ rest
  pub no_zero : ¬ Contains text 0

-- the file has this size and is the front of the contents, and the rest follows it
pub record IsCut (size : ℕ) (contents file rest : List ℕ) : Type 0 where
  pub contents_are : contents ≡ file ++ rest
  pub size_is : length file ≡ size
