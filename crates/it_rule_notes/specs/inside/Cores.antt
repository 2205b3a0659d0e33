-- What is left of a path, from both ends.
use Rattle.std.specs.Prelude.{◌≡◌, ℕ, List, ◌++◌}
use Rattle.it_rule_notes.specs.Near.{IsFolder, IsLineEnd}

-- what comes after a folder
pub record IsAfterFolder (path rest : List ℕ) : Type 0 where
  pub front : List ℕ
  pub path_is : path ≡ front ++ rest
  pub is_front : IsFolder front

-- what comes before a carriage return at the end
pub record IsBeforeEnd (path rest : List ℕ) : Type 0 where
  pub back : List ℕ
  pub path_is : path ≡ rest ++ back
  pub is_back : IsLineEnd back
