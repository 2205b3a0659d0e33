-- Extensions of a certificate (RFC 5280, sections 4.1 and 4.2), by the elements that they are. What
-- their values hold is not looked at.
use Rattle.std.specs.Prelude.{◌≡◌, ℕ, Bool, true, false, List, [], ◌∷◌}
use Rattle.std.specs.List.{AllZip}
use Rattle.it_der.specs.Element.{IsElement, AreElements, Tagged}
use Rattle.it_certificate.specs.Parts.{with_tags}
use Rattle.it_certificate.specs.declared.extension.Extension.{Extension}

-- an extension without where it lies in memory
pub record Stated : Type 0 where
  pub id : List ℕ
  pub critical : Bool
  pub value : List ℕ

abbrev pub stated_of : Extension → Stated
stated_of e = record { id = e.id.now; critical = e.critical; value = e.value.now }

-- an identifier; TRUE, where the extension is critical, since DER leaves FALSE out, the default
-- (X.690, sections 8.2, 11.1 and 11.5); and an OCTET STRING, the value
abbrev pub extension_elements : Bool → List ℕ → List ℕ → List Tagged
extension_elements true id value = with_tags (6 ∷ 1 ∷ 4 ∷ []) (id ∷ (255 ∷ []) ∷ value ∷ [])
extension_elements false id value = with_tags (6 ∷ 4 ∷ []) (id ∷ value ∷ [])

abbrev pub IsExtension : List ℕ → Stated → Type 0
IsExtension content e = AreElements content (extension_elements e.critical e.id e.value)

-- the element is a SEQUENCE that is the extension
abbrev pub HoldsExtension : Tagged → Stated → Type 0
HoldsExtension element e = (element.tag ≡ 48) × IsExtension element.content e

-- the content of the part of a certificate that has its extensions: a SEQUENCE of them, in order
pub record AreExtensions (content : List ℕ) (extensions : List Stated) : Type 0 where
  pub inner : List ℕ
  pub elements : List Tagged
  pub whole : IsElement content 48 inner
  pub are : AreElements inner elements
  pub each : AllZip HoldsExtension elements extensions
