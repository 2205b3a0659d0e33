-- What it means for a reader to find a value, or to find that there is none.
use Rattle.std.specs.Prelude.{Option, Some, None}

-- a value for which P holds, or none where P holds for no value
abbrev pub Finds : {X : Type 0} → (X → Type 0) → Option X → Type 0
Finds {X} P None = (x : X) → ¬ P x
Finds P (Some x) = P x

-- the same, where P is about the image of the value under a function
abbrev pub FindsAs : {X Y : Type 0} → (X → Y) → (Y → Type 0) → Option X → Type 0
FindsAs {Y = Y} shown P None = (y : Y) → ¬ P y
FindsAs shown P (Some x) = P (shown x)
