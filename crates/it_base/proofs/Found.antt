-- What was found, and what was not.
use Rattle.std.proofs.Common.{◌↔◌, IsTrue, Option, Some, None, is_some, refl}
use Rattle.it_base.specs.Finds.{Finds}

-- something was found exactly where there is something to find
pub finds_some : {X : Type 0} (P : X → Type 0) (found : Option X) → Finds P found
    → IsTrue (is_some found) ↔ ((x : X) × P x)
finds_some P None h = (λ is. absurd (cc is), λ some. absurd (h some.0 some.1))
finds_some P (Some x) h = (λ is. (x, h), λ some. refl)
