-- Bytes are a leaf in at most one way.
use Rattle.std.proofs.Common.{◌≡◌, ℕ, List, [], ◌∷◌, Option, Some, None, MatchOption, sym, ap, subst, ◌∙◌, arith}
use Rattle.it_der.specs.Element.{IsElement}
use Rattle.it_der.proofs.Reading.{begins_alone, one_first, one_reading}
use Rattle.it_certificate.specs.Certificate.{Facts}
use Rattle.it_certificate.specs.Identifiers.{subject_name, old_issuer, new_issuer}
use Rattle.it_certificate.specs.Issuer.{IsIssuer}
use Rattle.it_certificate.specs.Leaf.{IsLeaf, LeafOf}
use Rattle.it_certificate.specs.Name.{IsName, IsNameContent, IsOtherName, IsPlainName, fulcio_name, uri, mail, plain, other}
use Rattle.it_certificate.specs.Parts.{with_tags}
use Rattle.it_certificate.specs.Values.{value_of}
use Rattle.it_certificate.specs.Within.{Wraps}
use Rattle.it_certificate.proofs.OneFacts.{one_facts, one_wrapped}
use Rattle.it_certificate.proofs.OneWay.{one_content}
use Rattle.it_certificate.proofs.Tags.{content_at}

-- an element has one tag
one_tag : (bytes content content' : List ℕ) (tag tag' : ℕ) → IsElement bytes tag content → IsElement bytes tag' content' → tag ≡ tag'
one_tag bytes content content' tag tag' one two =
    (one_first bytes tag tag' content content' [] [] (begins_alone bytes tag content one) (begins_alone bytes tag' content' two)).0

one_plain : (content x y : List ℕ) → IsPlainName content x → IsPlainName content y → x ≡ y
one_plain content x y (uri one) (uri two) = one_content content x y one two
one_plain content x y (uri one) (mail two) = let tags : ◌≡◌ {A = ℕ} 134 129 = one_tag content x y 134 129 one two in absurd (omega arith)
one_plain content x y (mail one) (uri two) = let tags : ◌≡◌ {A = ℕ} 129 134 = one_tag content x y 129 134 one two in absurd (omega arith)
one_plain content x y (mail one) (mail two) = one_content content x y one two

one_other : (content x y : List ℕ) → IsOtherName content x → IsOtherName content y → x ≡ y
unfolding content_at
one_other content x y one two =
    let text : one.text ≡ two.text = ap (content_at 1) (one_reading content (with_tags (6 ∷ 160 ∷ []) (fulcio_name ∷ one.text ∷ []))
    (with_tags (6 ∷ 160 ∷ []) (fulcio_name ∷ two.text ∷ [])) one.parts two.parts) in
    one_content two.text x y (subst (λ (t : List ℕ). IsElement t 12 x) text one.is) two.is

apart : (content x y : List ℕ) → IsPlainName content x → Wraps 160 IsOtherName content y → ⊥
apart content x y (uri one) two = let tags : ◌≡◌ {A = ℕ} 134 160 = one_tag content x two.content 134 160 one two.whole in omega arith
apart content x y (mail one) two = let tags : ◌≡◌ {A = ℕ} 129 160 = one_tag content x two.content 129 160 one two.whole in omega arith

one_name_content : (content x y : List ℕ) → IsNameContent content x → IsNameContent content y → x ≡ y
one_name_content content x y (plain one) (plain two) = one_plain content x y one two
one_name_content content x y (plain one) (other two) = absurd (apart content x y one two)
one_name_content content x y (other one) (plain two) = absurd (apart content y x two one)
one_name_content content x y (other one) (other two) = one_wrapped IsOtherName 160 one_other content x y one two

one_named : (value : Option (List ℕ)) (x y : List ℕ) → MatchOption value ⊥ (λ v. IsName v x) → MatchOption value ⊥ (λ v. IsName v y) → x ≡ y
one_named None x y one two = absurd one
one_named (Some v) x y one two = one_wrapped IsNameContent 48 one_name_content v x y one two

one_issuer : (old new : Option (List ℕ)) (x y : List ℕ) → IsIssuer old new x → IsIssuer old new y → x ≡ y
one_issuer None None x y one two = absurd one
one_issuer (Some o) None x y one two = sym one ∙ two
one_issuer None (Some n) x y one two = one_content n x y one two
one_issuer (Some o) (Some n) x y one two = sym one.0 ∙ two.0

one_identity : (f : Facts) (name issuer name' issuer' : List ℕ) → IsLeaf f name issuer → IsLeaf f name' issuer'
    → (name ≡ name') × (issuer ≡ issuer')
one_identity f name issuer name' issuer' one two = (
  one_named (value_of subject_name f.extensions) name name' one.name_is two.name_is,
  one_issuer (value_of old_issuer f.extensions) (value_of new_issuer f.extensions) issuer issuer' one.issuer_is two.issuer_is,
)

pub one_leaf : (bytes : List ℕ) (f g : Facts) (name issuer name' issuer' : List ℕ) → LeafOf bytes f name issuer → LeafOf bytes g name' issuer'
    → (f ≡ g) × (name ≡ name') × (issuer ≡ issuer')
one_leaf bytes f g name issuer name' issuer' one two =
    let same = one_facts bytes f g one.certificate two.certificate in
    let named = one_identity g name issuer name' issuer' (subst (λ (h : Facts). IsLeaf h name issuer) same one.leaf) two.leaf in
    (same, named.0, named.1)
