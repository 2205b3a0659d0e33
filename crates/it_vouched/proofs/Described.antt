-- The identities that JSON key objects describe.
use Rattle.std.proofs.Common.{◌≡◌, ◌∙◌, ◌↔◌, ◌≤◌, ◌&&◌, ℕ, List, [], Bool, true, false, Option, Some, None}
use Rattle.std.proofs.Common.{if◌then◌else◌, MatchOption, option_and_then, unwrap_or, ap, arith, codes, length, nat_le, refl, subst, sym}
use Rattle.std.specs.Str.{bytes_eq}
use Rattle.std.proofs.lemmas.Bool.Decides.{nat_tests}
use Rattle.std.proofs.lemmas.Option.{same_Some}
use Rattle.serde_json.specs.Data.{Data}
use Rattle.serde_json.specs.Find.{as_str}
use Rattle.it_base.specs.Document.{member_at}
use Rattle.it_base.specs.Parts.{IsPart}
use Rattle.it_base.specs.Text.{IsText}
use Rattle.it_dsse.specs.KeyObject.{IsKeyObject, text_at}
use Rattle.it_dsse.specs.declared.key_object.KeyObject.{KeyObject}
use Rattle.it_identity.specs.Identity.{IsIdentity, IsShort}
use Rattle.it_identity.specs.KeyObject.{DescribesIdentity}
use Rattle.it_identity.specs.declared.identity.Identity.{Identity}
use Rattle.it_vouched.specs.ObjectIdentity.{has_identity, identity_in, is_short}
use Rattle.it_vouched.proofs.Keys.{identity_of, is_identity}
use Rattle.it_vouched.proofs.Saying.{both, bytes_equal, equal_bytes}

some_text : (o : Option (List ℕ)) (text : List ℕ) → o ≡ Some text → unwrap_or o [] ≡ text
some_text o text e = rw e refl

text_some : (o : Option (List ℕ)) (text : List ℕ) → 1 ≤ length text → unwrap_or o [] ≡ text → o ≡ Some text
text_some None text some e = absurd (let none : length text ≡ 0 = sym (ap length e) in omega arith)
text_some (Some t) text some e = ap Some e

-- a member of the document
member_text : (name : List ℕ) (d : Data) (text : List ℕ) → IsPart IsText name d text → text_at name (Some d) ≡ text
member_text name d text is =
    elim (member_at name d) as (λ o. MatchOption o ⊥ (λ v. IsText v text) → unwrap_or (option_and_then as_str o) [] ≡ text) [
      | None ↦ λ is. absurd is
      | Some v ↦ λ is. some_text (as_str v) text is
    ] is

text_member : (name : List ℕ) (d : Data) (text : List ℕ) → 1 ≤ length text → text_at name (Some d) ≡ text → IsPart IsText name d text
text_member name d text some e =
    elim (member_at name d) as (λ o. unwrap_or (option_and_then as_str o) [] ≡ text → MatchOption o ⊥ (λ v. IsText v text)) [
      | None ↦ λ e. absurd (let none : length text ≡ 0 = sym (ap length e) in omega arith)
      | Some v ↦ λ e. text_some (as_str v) text some e
    ] e

-- a member of its keyval
inner_text : (name : List ℕ) (o : Option Data) (text : List ℕ) → MatchOption o ⊥ (λ v. IsPart IsText name v text)
    → text_at name o ≡ text
inner_text name None text is = absurd is
inner_text name (Some v) text is = member_text name v text is

text_inner : (name : List ℕ) (o : Option Data) (text : List ℕ) → 1 ≤ length text → text_at name o ≡ text
    → MatchOption o ⊥ (λ v. IsPart IsText name v text)
text_inner name None text some e = absurd (let none : length text ≡ 0 = sym (ap length e) in omega arith)
text_inner name (Some v) text some e = text_member name v text some e

is_short_text : (text : List ℕ) → IsShort text → is_short text ≡ true
is_short_text text short =
    let some : 1 ≤ length text = omega (arith, short.some) in
    let few : length text ≤ 512 = short.few in
    let first : nat_le 1 (length text) ≡ true = grind (arith, nat_tests) in
    let last : nat_le (length text) 512 ≡ true = grind (arith, nat_tests) in
    rw (first, last) refl

chosen : (b : Bool) (one other : Identity) → b ≡ true → one ≡ other → (if b then Some one else None) ≡ Some other
chosen b one other e same = rw e (ap Some same)

choice : (b : Bool) (one other : Identity) → (if b then Some one else None) ≡ Some other → (b ≡ true) × (one ≡ other)
choice true one other e = (refl, same_Some one other e)
choice false one other e = cc

module _ (d : Data) (object : KeyObject) (identity : Identity) (is : IsKeyObject d object) where
  in_object : DescribesIdentity d identity → identity_in object ≡ Some identity
  in_object described =
      let scheme : object.scheme ≡ codes "Fulcio" =
      is.scheme ∙ member_text (codes "scheme") d (codes "Fulcio") described.scheme in
      let name : object.identity ≡ identity.name =
      is.identity ∙ inner_text (codes "identity") (member_at (codes "keyval") d) identity.name described.name in
      let issuer : object.issuer ≡ identity.issuer =
      is.issuer ∙ inner_text (codes "issuer") (member_at (codes "keyval") d) identity.issuer described.issuer in
      let first : bytes_eq object.scheme (codes "Fulcio") ≡ true = bytes_equal object.scheme (codes "Fulcio") scheme in
      let short_name : is_short object.identity ≡ true =
      ap is_short name ∙ is_short_text identity.name described.is_identity.name in
      let short_issuer : is_short object.issuer ≡ true =
      ap is_short issuer ∙ is_short_text identity.issuer described.is_identity.issuer in
      chosen (has_identity object) (identity_of object) identity (rw (first, short_name, short_issuer) refl)
      (λ i. record { name = name i; issuer = issuer i })

  describes : identity_in object ≡ Some identity → DescribesIdentity d identity
  describes e =
      let found = choice (has_identity object) (identity_of object) identity e in
      let good : IsIdentity identity = subst IsIdentity found.1 (is_identity object found.0) in
      let scheme = both (bytes_eq object.scheme (codes "Fulcio")) (is_short object.identity && is_short object.issuer) found.0 in
      record {
        scheme = text_member (codes "scheme") d (codes "Fulcio") (omega arith)
            (sym is.scheme ∙ equal_bytes object.scheme (codes "Fulcio") scheme.0);
        name = text_inner (codes "identity") (member_at (codes "keyval") d) identity.name (omega (arith, good.name.some))
            (sym is.identity ∙ ap (λ (i : Identity). i.name) found.1);
        issuer = text_inner (codes "issuer") (member_at (codes "keyval") d) identity.issuer (omega (arith, good.issuer.some))
            (sym is.issuer ∙ ap (λ (i : Identity). i.issuer) found.1);
        is_identity = good;
      }

pub described : (d : Data) (object : KeyObject) (identity : Identity) → IsKeyObject d object
    → DescribesIdentity d identity ↔ (identity_in object ≡ Some identity)
described d object identity is = (in_object d object identity is, describes d object identity is)
