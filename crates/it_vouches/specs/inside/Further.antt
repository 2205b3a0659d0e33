-- The further of two conditions. Nothing here is trusted.
use Rattle.std.specs.Prelude.{◌≡◌, ◌⊎◌, ℕ, ◌≤◌}

pub record IsFurther {S : Type 0} (place_of : S → ℕ) (one other found : S) : Type 0 where
  pub is_either : (found ≡ one) ⊎ (found ≡ other)
  pub up_to_one : place_of one ≤ place_of found
  pub up_to_other : place_of other ≤ place_of found
