-- Lists of one item.
use Rattle.std.specs.Prelude.{◌≡◌, ℕ, List, [], ◌∷◌}
use Rattle.serde_json.specs.Data.{Data}
use Rattle.it_base.specs.Parts.{IsPart}
use Rattle.it_base.specs.Sequence.{IsList}

-- the member of this name is a list of this item alone
abbrev pub IsOnlyItem : List ℕ → Data → Data → Type 0
IsOnlyItem name d only = IsPart (IsList (λ item x. item ≡ x)) name d (only ∷ [])
