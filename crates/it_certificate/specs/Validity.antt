-- When a certificate is valid (RFC 5280, section 4.1.2.5).
use Rattle.std.specs.Prelude.{ℕ, List, [], ◌∷◌}
use Rattle.it_der.specs.Element.{Tagged}
use Rattle.it_certificate.specs.Time.{TimeOf}
use Rattle.it_certificate.specs.Within.{Lists}
use Rattle.it_certificate.specs.declared.validity.Validity.{Validity}

-- two times, the first moment and the last
abbrev pub AreTimes : List Tagged → Validity → Type 0
AreTimes [] v = ⊥
AreTimes (from ∷ []) v = ⊥
AreTimes (from ∷ to ∷ []) v = TimeOf from.tag from.content v.first.seconds
    × TimeOf to.tag to.content v.last.seconds
AreTimes (from ∷ to ∷ other ∷ rest) v = ⊥

abbrev pub IsValidity : List ℕ → Validity → Type 0
IsValidity = Lists AreTimes
