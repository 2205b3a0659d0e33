-- Which files are claimed for a step by their names (in-toto 1.0 section 4.4, names of link files;
-- the middle part is this profile's choice).
use Rattle.std.specs.Prelude.{◌≡◌, ◌≢◌, ℕ, List, [], ◌++◌, codes, Contains}

-- a file's name claims the file for a step: the step's name, a full stop, a text that is not empty
-- and has no full stop, and `.link`
pub record IsClaimed (step name : List ℕ) : Type 0 where
  pub middle : List ℕ
  pub name_is : name ≡ step ++ codes "." ++ middle ++ codes ".link"
  pub not_empty : middle ≢ []
  pub no_stop : ¬ Contains middle 46
