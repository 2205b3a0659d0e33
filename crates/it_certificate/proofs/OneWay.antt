-- Bytes are a certificate in at most one way.
use Rattle.std.proofs.Common.{◌≡◌, ℕ, List, [], ◌∷◌, sym, ap, subst, ◌∙◌}
use Rattle.it_der.specs.Element.{IsElement, AreElements, BeginsWith, Tagged, bytes_of, wrap}
use Rattle.std.proofs.Common.{◌+◌, ◌-◌, length, take, arith, length-append}
use Rattle.std.proofs.lemmas.List.{take_at}
use Rattle.it_der.proofs.Reading.{one_first, begins_alone, one_reading}
use Rattle.it_certificate.specs.Parts.{Parts, AreSigned, IsCertificate, outer_elements, signed_elements, signed_bytes}
use Rattle.it_certificate.proofs.Tags.{content_at}

pub one_content : {tag : ℕ} (bytes content other : List ℕ) → IsElement bytes tag content → IsElement bytes tag other → content ≡ other
one_content {tag} bytes content other one two =
    (one_first bytes tag tag content other [] [] (begins_alone bytes tag content one) (begins_alone bytes tag other two)).1

-- the same parts of a certificate
pub record AreSameOuter (signed algorithm signature signed' algorithm' signature' : List ℕ) : Type 0 where
  pub signed_is : signed ≡ signed'
  pub algorithm_is : algorithm ≡ algorithm'
  pub signature_is : signature ≡ signature'

rest_of : List ℕ → List ℕ
rest_of [] = []
rest_of (x ∷ xs) = xs

pub one_outer : (content signed algorithm signature signed' algorithm' signature' : List ℕ)
    → AreElements content (outer_elements signed algorithm signature) → AreElements content (outer_elements signed' algorithm' signature')
    → AreSameOuter signed algorithm signature signed' algorithm' signature'
unfolding content_at rest_of
one_outer content signed algorithm signature signed' algorithm' signature' one two =
    let same = one_reading content (outer_elements signed algorithm signature) (outer_elements signed' algorithm' signature') one two in
    record {
      signed_is = ap (content_at 0) same;
      algorithm_is = ap (content_at 1) same;
      signature_is = ap (λ (es : List Tagged). rest_of (content_at 2 es)) same;
    }

-- the parts that have these elements
parts_in : List Tagged → Parts
parts_in es = record {
  serial = content_at 1 es;
  algorithm = content_at 2 es;
  issuer = content_at 3 es;
  validity = content_at 4 es;
  subject = content_at 5 es;
  key = content_at 6 es;
  extensions = content_at 7 es;
}

pub one_inner : (content : List ℕ) (p q : Parts) → AreSigned content p → AreSigned content q → p ≡ q
unfolding content_at parts_in
one_inner content p q one two = ap parts_in (one_reading content (signed_elements p) (signed_elements q) one.elements two.elements)

-- the parts of a certificate whose content is known
pub outer_of : (bytes content : List ℕ) (p : Parts) (signature : List ℕ) → IsElement bytes 48 content → (is : IsCertificate bytes p signature)
    → AreElements content (outer_elements is.signed p.algorithm signature)
outer_of bytes content p signature whole is =
    subst (λ (c : List ℕ). AreElements c (outer_elements is.signed p.algorithm signature)) (one_content bytes is.content content is.whole whole) is.outer

pub inner_of : (content signed algorithm signature other : List ℕ) (p : Parts) (signed' : List ℕ)
    → AreElements content (outer_elements signed algorithm signature) → AreElements content (outer_elements signed' p.algorithm other)
    → AreSigned signed' p → AreSigned signed p
inner_of content signed algorithm signature other p signed' one two inner =
    subst (λ (s : List ℕ). AreSigned s p) (sym (one_outer content signed algorithm signature signed' p.algorithm other one two).signed_is) inner

pub one_certificate : (bytes : List ℕ) (p q : Parts) (signature other : List ℕ) → IsCertificate bytes p signature → IsCertificate bytes q other
    → (p ≡ q) × (signature ≡ other)
one_certificate bytes p q signature other one two =
    let outer = outer_of bytes two.content p signature two.whole one in
    let same = one_outer two.content two.signed q.algorithm other one.signed p.algorithm signature two.outer outer in
    (one_inner two.signed p q (subst (λ (s : List ℕ). AreSigned s p) (sym same.signed_is) one.inner) two.inner, sym same.signature_is)

-- no certificate has other parts than were read
pub no_outer : (bytes content : List ℕ) → IsElement bytes 48 content
    → ((signed algorithm signature : List ℕ) → AreElements content (outer_elements signed algorithm signature) → ⊥)
    → (p : Parts) (signature : List ℕ) → IsCertificate bytes p signature → ⊥
no_outer bytes content whole none p signature is = none is.signed p.algorithm signature (outer_of bytes content p signature whole is)

pub no_inner : (bytes content signed algorithm signature : List ℕ) → IsElement bytes 48 content
    → AreElements content (outer_elements signed algorithm signature) → ((p : Parts) → AreSigned signed p → ⊥)
    → (p : Parts) (other : List ℕ) → IsCertificate bytes p other → ⊥
no_inner bytes content signed algorithm signature whole outer none p other is =
    none p (inner_of content signed algorithm signature other p is.signed outer (outer_of bytes content p other whole is) is.inner)

pub other_algorithm : (bytes content signed algorithm signature : List ℕ) (read : Parts) → IsElement bytes 48 content
    → AreElements content (outer_elements signed algorithm signature) → AreSigned signed read → (read.algorithm ≡ algorithm → ⊥)
    → (p : Parts) (other : List ℕ) → IsCertificate bytes p other → ⊥
other_algorithm bytes content signed algorithm signature read whole outer inner differ p other is =
    let theirs = outer_of bytes content p other whole is in
    let same = one_outer content signed algorithm signature is.signed p.algorithm other outer theirs in
    let parts = one_inner signed read p inner (inner_of content signed algorithm signature other p is.signed outer theirs is.inner) in
    differ (ap (λ (x : Parts). x.algorithm) parts ∙ sym same.algorithm_is)

pub certificate_is : (bytes content signed algorithm signature : List ℕ) (read : Parts) → IsElement bytes 48 content
    → AreElements content (outer_elements signed algorithm signature) → AreSigned signed read → read.algorithm ≡ algorithm
    → IsCertificate bytes read signature
certificate_is bytes content signed algorithm signature read whole outer inner same = record {
  content = content;
  signed = signed;
  whole = whole;
  outer = subst (λ (a : List ℕ). AreElements content (outer_elements signed a signature)) (sym same) outer;
  inner = inner;
}

-- the bytes of the first element
pub front_is : (bytes content rest content' rest' : List ℕ) (tag tag' : ℕ) → BeginsWith bytes tag content rest → BeginsWith bytes tag' content' rest'
    → take (length bytes - length rest) bytes ≡ wrap tag' content'
front_is bytes content rest content' rest' tag tag' found begins =
    let same : rest ≡ rest' = (one_first bytes tag tag' content content' rest rest' found begins).2 in
    let sizes : length rest ≡ length rest' = ap length same in
    let whole : length bytes ≡ length (wrap tag' content') + length rest' =
    ap length begins.written ∙ length-append (wrap tag' content') rest' in
    let count : length (wrap tag' content') ≡ length bytes - length rest = omega arith in
    ap (λ (xs : List ℕ). take (length bytes - length rest) xs) begins.written ∙ take_at (wrap tag' content') rest' (length bytes - length rest) count

-- what is signed is the first element of the content
pub first_signed : (content signed algorithm signature front : List ℕ) (p : Parts) → AreElements content (outer_elements signed algorithm signature)
    → AreSigned signed p → ((tag : ℕ) (inner rest : List ℕ) → BeginsWith content tag inner rest → front ≡ wrap tag inner)
    → front ≡ signed_bytes p
first_signed content signed algorithm signature front p outer inner is =
    let after : List Tagged = record { tag = 48; content = algorithm } ∷ record { tag = 3; content = 0 ∷ signature } ∷ [] in
    let begins : BeginsWith content 48 signed (bytes_of after) = record { short = outer.short.0; written = outer.written } in
    is 48 signed (bytes_of after) begins ∙ ap (λ (xs : List ℕ). wrap 48 xs) inner.elements.written
