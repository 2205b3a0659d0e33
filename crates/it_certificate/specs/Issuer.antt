-- The issuer of an identity, in the values of Fulcio's extensions.
use Rattle.std.specs.Prelude.{◌≡◌, ℕ, Option, Some, None, List}
use Rattle.it_der.specs.Element.{IsElement}

-- the values of the old form, the text itself, and of the new form, a UTF8String, name this issuer:
-- one of them is there, and where both are, they name the same (this profile's choice)
abbrev pub IsIssuer : Option (List ℕ) → Option (List ℕ) → List ℕ → Type 0
IsIssuer None None issuer = ⊥
IsIssuer (Some old) None issuer = old ≡ issuer
IsIssuer None (Some new) issuer = IsElement new 12 issuer
IsIssuer (Some old) (Some new) issuer = (old ≡ issuer) × IsElement new 12 issuer
