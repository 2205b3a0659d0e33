-- Elements in DER (X.690), by the bytes that write them: so what reads is strict, and reads in one
-- way. Here the tag of an element is one byte, and its content has at most 65,535 bytes (this
-- profile's choices; X.690, sections 8.1.2.4 and 8.1.3.5, has longer ones).
use Rattle.std.specs.Prelude.{◌≡◌, ℕ, ◌/◌, ◌%◌, ◌^◌, ◌<◌, List, [], ◌∷◌, ◌++◌, length, nat_lt}
use Rattle.std.specs.Prelude.{if◌then◌else◌}
use Rattle.std.specs.List.{flat_map, AllByRecursion}
use Rattle.it_der.specs.declared.elements.Element.{Element}

-- how long a content below 2 ^ 16 bytes is: the definite form, in the fewest bytes (X.690, sections
-- 8.1.3 and 10.1). A length below 128 is a byte; 129 and 130 say that one or two bytes have it
unfoldable pub length_form : ℕ → List ℕ
length_form n =
    (if nat_lt n 128 then n ∷ [] else
    (if nat_lt n 256 then 129 ∷ n ∷ [] else 130 ∷ (n / 256) ∷ (n % 256) ∷ []))

-- an element: its tag, how long its content is, and its content (X.690, section 8.1.1)
abbrev pub wrap : ℕ → List ℕ → List ℕ
wrap tag content = tag ∷ length_form (length content) ++ content

-- the bytes begin with an element, and what comes after it is the rest
pub record BeginsWith (bytes : List ℕ) (tag : ℕ) (content rest : List ℕ) : Type 0 where
  pub short : length content < 2 ^ 16
  pub written : bytes ≡ wrap tag content ++ rest

-- the bytes are an element and nothing else
pub record IsElement (bytes : List ℕ) (tag : ℕ) (content : List ℕ) : Type 0 where
  pub short : length content < 2 ^ 16
  pub written : bytes ≡ wrap tag content

-- a tag, and the content that comes with it
pub record Tagged : Type 0 where
  pub tag : ℕ
  pub content : List ℕ

-- an element without where it lies in memory
abbrev pub tagged_of : Element → Tagged
tagged_of element = record { tag = element.tag; content = element.content.now }

-- elements, one after another
abbrev pub bytes_of : List Tagged → List ℕ
bytes_of elements = flat_map (λ e. wrap e.tag e.content) elements

-- the bytes are these elements, one after another, and nothing else
pub record AreElements (bytes : List ℕ) (elements : List Tagged) : Type 0 where
  pub short : AllByRecursion (λ e. length e.content < 2 ^ 16) elements
  pub written : bytes ≡ bytes_of elements
