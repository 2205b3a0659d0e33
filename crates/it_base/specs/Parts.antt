-- Members that hold values.
use Rattle.std.specs.Prelude.{◌≡◌, ℕ, List, MatchOption}
use Rattle.serde_json.specs.Data.{Data}
use Rattle.it_base.specs.Document.{member_at}

-- the member of this name is there, and is this value
abbrev pub IsPart : {X : Type 0} → (Data → X → Type 0) → List ℕ → Data → X → Type 0
IsPart P name d x = MatchOption (member_at name d) ⊥ (λ v. P v x)

-- the member of this name is this value, or it is missing and this value is the default
abbrev pub IsPartOr : {X : Type 0} → (Data → X → Type 0) → X → List ℕ → Data → X → Type 0
IsPartOr P missing name d x = MatchOption (member_at name d) (x ≡ missing) (λ v. P v x)
