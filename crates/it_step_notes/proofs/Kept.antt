-- What holds of a value, where there is one.
use Rattle.std.proofs.Common.{Option, Some, None}
use Rattle.std.proofs.Common.{IfSome}

-- what holds for each of them holds for one
pub given_at : {Y X : Type 0} (P : Y → X → Type 0) (found : Option X)
    → IfSome found (λ x. (y : Y) → P y x) → (y : Y) → IfSome found (P y)
given_at P None h y = tt
given_at P (Some x) h y = h y
