-- What is read is one value at most.
use Rattle.std.proofs.Common.{◌≡◌, ◌∙◌, ◌↔◌, ℕ, List, Option, Some, None, MatchOption, IsTrue}
use Rattle.std.proofs.Common.{Bool, sym, subst, arith}
use Rattle.std.specs.Bool.{Decides}
use Rattle.std.proofs.lemmas.Option.{same_Some}
use Rattle.std.proofs.lemmas.Fmt.{decimal_injective}
use Rattle.serde_json.specs.Data.{Data}
use Rattle.serde_json.specs.Find.{as_str}
use Rattle.it_base.specs.Base64Text.{IsBase64}
use Rattle.it_base.specs.Document.{member_at}
use Rattle.it_base.specs.Parts.{IsPartOr}
use Rattle.it_base.proofs.Unique.{IsUnique}
use Rattle.it_log_entry.specs.InclusionProof.{IsHash}
use Rattle.it_log_entry.specs.Number.{IsNumber, IsNumberText}

pub base64_same : IsUnique IsBase64
base64_same d x y h k = same_Some x y (sym h ∙ k)

pub number_text_same : (text : List ℕ) (x y : ℕ) → IsNumberText text x → IsNumberText text y → x ≡ y
number_text_same text x y h k =
    let small = h.small in
    let other = k.small in
    decimal_injective x y (omega arith) (omega arith) (sym h.digits_are ∙ k.digits_are)

number_found : (found : Option (List ℕ)) (x y : ℕ) → MatchOption found ⊥ (λ text. IsNumberText text x)
    → MatchOption found ⊥ (λ text. IsNumberText text y) → x ≡ y
number_found None x y h k = absurd h
number_found (Some text) x y h k = number_text_same text x y h k

pub number_same : IsUnique IsNumber
number_same d x y h k = number_found (as_str d) x y h k

pub hash_same : IsUnique IsHash
hash_same d x y h k = base64_same d x y h.is_base64 k.is_base64

or_same : {X : Type 0} (P : Data → X → Type 0) (missing : X) → IsUnique P
    → (found : Option Data) (x y : X) → MatchOption found (x ≡ missing) (λ v. P v x)
    → MatchOption found (y ≡ missing) (λ v. P v y) → x ≡ y
or_same P missing same None x y h k = h ∙ sym k
or_same P missing same (Some v) x y h k = same v x y h k

pub part_or_same : {X : Type 0} (P : Data → X → Type 0) (missing : X) (name : List ℕ) → IsUnique P
    → IsUnique (IsPartOr P missing name)
part_or_same P missing name same d x y h k = or_same P missing same (member_at name d) x y h k

-- a value that is found is compared with the one that is wanted
pub found_is : {X : Type 0} (P : X → Type 0) → ((x y : X) → P x → P y → x ≡ y) → (x y : X) (b : Bool)
    → P x → Decides b (x ≡ y) → IsTrue b ↔ P y
found_is P same x y b h test = (
  λ is. subst P (test.0 is) h,
  λ k. test.1 (same x y h k),
)
