-- Paths with a mark on some of them, such as on those that a rule has consumed.
use Rattle.std.specs.Prelude.{◌≡◌, ◌↔◌, ℕ, Bool, false, List, Contains}
use Rattle.std.specs.Borrow.{Bor}
use Rattle.std.specs.List.{slice_index_or}
use Rattle.it_rules.specs.Paths.{IsListed}
use Rattle.it_rules.specs.Rules.{AreSorted}

-- whether there is a mark at a place
abbrev pub is_marked : List Bool → ℕ → Bool
is_marked marks place = slice_index_or marks place false

-- a path is at some place without a mark
pub record IsLeft (paths : List (Bor (List ℕ))) (marks : List Bool) (path : List ℕ) : Type 0 where
  pub listed : IsListed paths path
  pub unmarked : is_marked marks listed.place ≡ false

-- these are the unmarked paths, in order
pub record AreLeft (paths : List (Bor (List ℕ))) (marks : List Bool) (left : List (List ℕ))
    : Type 0 where
  pub in_order : AreSorted left
  pub exact : (path : List ℕ) → Contains left path ↔ IsLeft paths marks path
