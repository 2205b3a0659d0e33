-- Levels of builders and expectations: the build levels of SLSA v1.0. That a policy gives a
-- builder its level, and that a missing level is 0, is this profile's choice.
use Rattle.std.specs.Prelude.{◌≡◌, ℕ, ◌≤◌, Some, codes, option_and_then}
use Rattle.serde_json.specs.Data.{Data}
use Rattle.serde_json.specs.Find.{as_number, as_u64}
use Rattle.it_base.specs.Parts.{IsPartOr}

-- a level: a whole number from 0 to 3
pub record IsLevel (d : Data) (level : ℕ) : Type 0 where
  pub number_is : option_and_then as_u64 (as_number d) ≡ Some level
  pub at_most_three : level ≤ 3

-- the level of a builder or an expectation; a missing one is 0
abbrev pub IsLevelPart : Data → ℕ → Type 0
IsLevelPart = IsPartOr IsLevel 0 (codes "level")
