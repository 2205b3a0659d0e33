-- A part of a document is one value at most.
use Rattle.std.proofs.Common.{◌≡◌, ℕ, List, Option, Some, None, sym, ◌∙◌, subst}
use Rattle.std.specs.Option.{MatchOption}
use Rattle.std.proofs.lemmas.Option.{same_Some}
use Rattle.serde_json.specs.Data.{Data, Items}
use Rattle.serde_json.specs.Find.{as_array}
use Rattle.it_base.specs.Document.{OfDocument, member_at}
use Rattle.it_base.specs.HexadecimalText.{IsHexadecimal}
use Rattle.it_base.specs.Parts.{IsPart}
use Rattle.it_base.specs.Sequence.{AreEach, IsList}
use Rattle.it_base.specs.Text.{IsText}
use Rattle.it_base.proofs.Documents.{same_document}
use Rattle.it_base.proofs.Items.{each_same}

-- a part is one value at most
abbrev pub IsUnique : {X : Type 0} → (Data → X → Type 0) → Type 0
IsUnique {X} P = (d : Data) (x y : X) → P d x → P d y → x ≡ y

pub text_same : IsUnique IsText
text_same d x y h k = same_Some x y (sym h ∙ k)

pub hexadecimal_same : IsUnique IsHexadecimal
hexadecimal_same d x y h k = same_Some x y (sym h ∙ k)

member_same : {X : Type 0} (P : Data → X → Type 0) → IsUnique P → (member : Option Data) (x y : X)
    → MatchOption member ⊥ (λ v. P v x) → MatchOption member ⊥ (λ v. P v y) → x ≡ y
member_same P same None x y h k = absurd h
member_same P same (Some v) x y h k = same v x y h k

pub part_same : {X : Type 0} (P : Data → X → Type 0) → IsUnique P → (name : List ℕ)
    → IsUnique (IsPart P name)
part_same P same name d = member_same P same (member_at name d)

items_same : {X : Type 0} (P : Data → X → Type 0) → IsUnique P
    → (items : Option Items) (xs ys : List X)
    → MatchOption items ⊥ (λ ds. AreEach P ds xs) → MatchOption items ⊥ (λ ds. AreEach P ds ys)
    → xs ≡ ys
items_same P same None xs ys h k = absurd h
items_same P same (Some ds) xs ys h k = each_same P same ds xs ys h k

pub list_same : {X : Type 0} (P : Data → X → Type 0) → IsUnique P → IsUnique (IsList P)
list_same P same d = items_same P same (as_array d)

-- the bytes of a document are one value at most
pub of_document_same : {X : Type 0} (P : Data → X → Type 0) → IsUnique P
    → (bytes : List ℕ) (x y : X) → OfDocument P bytes x → OfDocument P bytes y → x ≡ y
of_document_same P same bytes x y h k =
    same h.0 x y h.2 (subst (λ d. P d y) (same_document bytes k.0 h.0 k.1 h.1) k.2)
