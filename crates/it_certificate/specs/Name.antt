-- The value of the extension of the subject's names (RFC 5280, section 4.2.1.6), which is to have
-- exactly one (this profile's choice).
use Rattle.std.specs.Prelude.{ℕ, List, [], ◌∷◌}
use Rattle.it_der.specs.Element.{IsElement, AreElements}
use Rattle.it_certificate.specs.Parts.{with_tags}
use Rattle.it_certificate.specs.Within.{Wraps}

-- 1.3.6.1.4.1.57264.1.7: Fulcio's own kind of name
abbrev pub fulcio_name : List ℕ
fulcio_name = 43 ∷ 6 ∷ 1 ∷ 4 ∷ 1 ∷ 131 ∷ 191 ∷ 48 ∷ 1 ∷ 7 ∷ []

-- a name of Fulcio's own kind: a UTF8String
pub record IsOtherName (content name : List ℕ) : Type 0 where
  pub text : List ℕ
  pub parts : AreElements content (with_tags (6 ∷ 160 ∷ []) (fulcio_name ∷ text ∷ []))
  pub is : IsElement text 12 name

-- a URI or an address of mail
pub data IsPlainName (content name : List ℕ) : Type 0 where
  uri : IsElement content 134 name → IsPlainName content name
  mail : IsElement content 129 name → IsPlainName content name

-- the content has this one name
pub data IsNameContent (content name : List ℕ) : Type 0 where
  plain : IsPlainName content name → IsNameContent content name
  other : Wraps 160 IsOtherName content name → IsNameContent content name

-- the value is this one name
abbrev pub IsName : List ℕ → List ℕ → Type 0
IsName = Wraps 48 IsNameContent
