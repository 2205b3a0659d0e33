-- Values that lie in elements: what is read of the content is what is read of the whole.
use Rattle.std.proofs.Common.{ℕ, List, Option, Some, None, MatchOption, Result, Ok, Err, IfOk, subst}
use Rattle.it_der.specs.Element.{IsElement, AreElements, Tagged}
use Rattle.it_der.proofs.Reading.{one_reading}
use Rattle.it_certificate.specs.Within.{Wraps, Lists}
use Rattle.it_certificate.proofs.OneWay.{one_content}

pub no_element : {X : Type 0} (Is : List ℕ → X → Type 0) (bytes : List ℕ) (tag : ℕ) → ((content : List ℕ) → IsElement bytes tag content → ⊥)
    → (x : X) → Wraps tag Is bytes x → ⊥
no_element Is bytes tag none x is = none is.content is.whole

pub in_element : {X Y : Type 0} (shown : Y → X) (Is : List ℕ → X → Type 0) (bytes : List ℕ) (tag : ℕ) (content : List ℕ) (r : Option Y)
    → IsElement bytes tag content → MatchOption r ((x : X) → Is content x → ⊥) (λ y. Is content (shown y))
    → MatchOption r ((x : X) → Wraps tag Is bytes x → ⊥) (λ y. Wraps tag Is bytes (shown y))
in_element shown Is bytes tag content None whole none = λ x is.
    none x (subst (λ (c : List ℕ). Is c x) (one_content bytes is.content content is.whole whole) is.says)
in_element shown Is bytes tag content (Some y) whole says = record { content = content; whole = whole; says = says }

-- the same where memory may be refused
pub in_element_if_ok : {X Y E : Type 0} (shown : Y → X) (Is : List ℕ → X → Type 0) (bytes : List ℕ) (tag : ℕ) (content : List ℕ)
    (r : Result (Option Y) E) → IsElement bytes tag content
    → IfOk r (λ found. MatchOption found ((x : X) → Is content x → ⊥) (λ y. Is content (shown y)))
    → IfOk r (λ found. MatchOption found ((x : X) → Wraps tag Is bytes x → ⊥) (λ y. Wraps tag Is bytes (shown y)))
in_element_if_ok shown Is bytes tag content (Ok found) whole says = in_element shown Is bytes tag content found whole says
in_element_if_ok shown Is bytes tag content (Err e) whole says = says

pub no_elements : {X : Type 0} (Are : List Tagged → X → Type 0) (bytes : List ℕ) → ((elements : List Tagged) → AreElements bytes elements → ⊥)
    → (x : X) → Lists Are bytes x → ⊥
no_elements Are bytes none x is = none is.elements is.are

pub in_elements : {X Y : Type 0} (shown : Y → X) (Are : List Tagged → X → Type 0) (bytes : List ℕ) (elements : List Tagged) (r : Option Y)
    → AreElements bytes elements → MatchOption r ((x : X) → Are elements x → ⊥) (λ y. Are elements (shown y))
    → MatchOption r ((x : X) → Lists Are bytes x → ⊥) (λ y. Lists Are bytes (shown y))
in_elements shown Are bytes elements None are none = λ x is.
    none x (subst (λ (es : List Tagged). Are es x) (one_reading bytes is.elements elements is.are are) is.says)
in_elements shown Are bytes elements (Some y) are says = record { elements = elements; are = are; says = says }
