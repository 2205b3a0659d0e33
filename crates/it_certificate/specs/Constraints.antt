-- The value of the extension of basic constraints (RFC 5280, section 4.2.1.9).
use Rattle.std.specs.Prelude.{◌≡◌, ℕ, ◌<◌, List, [], ◌∷◌, Some, None}
use Rattle.it_der.specs.Element.{IsElement}
use Rattle.it_certificate.specs.declared.constraints.Constraints.{Constraints}
use Rattle.it_certificate.specs.declared.constraints.Constraints.TheVariants.{NoAuthority}
use Rattle.it_certificate.specs.declared.constraints.Constraints.TheVariants.{Authority}

-- the content of a SEQUENCE: nothing, since FALSE is the default, which DER leaves out; or TRUE,
-- and the path length where there is one, an INTEGER of one byte that is below 128 (this profile's
-- choice)
abbrev pub IsConstraintsContent : Constraints → List ℕ → Type 0
IsConstraintsContent NoAuthority content = content ≡ []
IsConstraintsContent (Authority None) content = content ≡ 1 ∷ 1 ∷ 255 ∷ []
IsConstraintsContent (Authority (Some n)) content =
    (n < 128) × (content ≡ 1 ∷ 1 ∷ 255 ∷ 2 ∷ 1 ∷ n ∷ [])

-- the value is these constraints
pub record IsConstraints (value : List ℕ) (c : Constraints) : Type 0 where
  pub content : List ℕ
  pub whole : IsElement value 48 content
  pub says : IsConstraintsContent c content
