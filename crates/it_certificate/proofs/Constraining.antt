-- Basic constraints: the value, by its content.
use Rattle.std.proofs.Common.{ℕ, Option, Some, None, MatchOption, List}
use Rattle.std.proofs.Common.{subst}
use Rattle.it_der.specs.Element.{IsElement}
use Rattle.it_certificate.specs.Constraints.{IsConstraints, IsConstraintsContent}
use Rattle.it_certificate.specs.declared.constraints.Constraints.{Constraints}
use Rattle.it_certificate.proofs.OneWay.{one_content}

-- the constraints of a value whose content is known
pub no_constraints : (value content : List ℕ) → IsElement value 48 content → ((c : Constraints) → IsConstraintsContent c content → ⊥)
    → (c : Constraints) → IsConstraints value c → ⊥
no_constraints value content whole none c is =
    none c (subst (λ (x : List ℕ). IsConstraintsContent c x) (one_content value is.content content is.whole whole) is.says)

pub by_content : (value content : List ℕ) (r : Option Constraints) → IsElement value 48 content
    → MatchOption r ((c : Constraints) → IsConstraintsContent c content → ⊥) (λ c. IsConstraintsContent c content)
    → MatchOption r ((c : Constraints) → IsConstraints value c → ⊥) (λ c. IsConstraints value c)
by_content value content None whole none = no_constraints value content whole none
by_content value content (Some c) whole says = record { content = content; whole = whole; says = says }
