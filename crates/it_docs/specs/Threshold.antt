-- Thresholds of steps (in-toto 1.0 section 4.3.1).
use Rattle.std.specs.Prelude.{◌≡◌, ℕ, ◌≤◌, Some, codes, option_and_then}
use Rattle.serde_json.specs.Data.{Data}
use Rattle.serde_json.specs.Find.{as_number, as_u64}
use Rattle.it_base.specs.Parts.{IsPartOr}

-- a threshold: a whole number of 64 bits, at least 1
pub record IsThreshold (d : Data) (threshold : ℕ) : Type 0 where
  pub number_is : option_and_then as_u64 (as_number d) ≡ Some threshold
  pub at_least_one : 1 ≤ threshold

-- the threshold of a step; a missing one is 1
abbrev pub IsThresholdPart : Data → ℕ → Type 0
IsThresholdPart = IsPartOr IsThreshold 1 (codes "threshold")
