-- The value of the extension of extended key usage (RFC 5280, section 4.2.1.12).
use Rattle.std.specs.Prelude.{◌≡◌, ◌≢◌, ℕ, ◌==◌, true, List, [], ◌∷◌}
use Rattle.std.specs.List.{list_all, list_any}
use Rattle.std.specs.Str.{bytes_eq}
use Rattle.it_der.specs.Element.{Tagged}
use Rattle.it_certificate.specs.Within.{Wraps, Lists}
use Rattle.it_certificate.specs.declared.purposes.Purposes.{Purposes}

-- id-kp-codeSigning and anyExtendedKeyUsage
abbrev pub code_signing : List ℕ
code_signing = 43 ∷ 6 ∷ 1 ∷ 5 ∷ 5 ∷ 7 ∷ 3 ∷ 3 ∷ []

abbrev pub any_purpose : List ℕ
any_purpose = 85 ∷ 29 ∷ 37 ∷ 0 ∷ []

-- one or more identifiers, by which these purposes are named or not
pub record ArePurposes (elements : List Tagged) (p : Purposes) : Type 0 where
  pub some : elements ≢ []
  pub identifiers : list_all (λ e. e.tag == 6) elements ≡ true
  pub code_signing_is : p.code_signing ≡ list_any (λ e. bytes_eq e.content code_signing) elements
  pub any_is : p.any ≡ list_any (λ e. bytes_eq e.content any_purpose) elements

-- the value is a SEQUENCE of them
abbrev pub IsPurposes : List ℕ → Purposes → Type 0
IsPurposes = Wraps 48 (Lists ArePurposes)
