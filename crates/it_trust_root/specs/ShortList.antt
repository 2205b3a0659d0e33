-- Lists of a trusted root.
use Rattle.std.specs.Prelude.{ℕ, ◌≤◌, List, [], length}
use Rattle.serde_json.specs.Data.{Data}
use Rattle.it_base.specs.Parts.{IsPartOr}
use Rattle.it_base.specs.Sequence.{IsList}

-- the list of this name, of at most 64 elements (this profile's choice); a missing one is empty
pub record IsShortList {X : Type 0} (P : Data → X → Type 0) (name : List ℕ) (d : Data)
    (elements : List X) : Type 0 where
  pub part_is : IsPartOr (IsList P) [] name d elements
  pub few : length elements ≤ 64
