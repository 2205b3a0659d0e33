-- Elements at the front of bytes, and one after another.
use Rattle.std.proofs.Common.{◌≡◌, ℕ, suc, ◌+◌, ◌^◌, ◌<◌, List, [], ◌∷◌, ◌++◌, ◌-◌, length, take, drop}
use Rattle.std.proofs.Common.{refl, sym, ap, ◌∙◌, arith, append_assoc, append-nil}
use Rattle.std.proofs.Common.{length-append, length-drop}
use Rattle.std.proofs.lemmas.List.{take_all}
use Rattle.std.specs.List.{AllByRecursion}
use Rattle.it_der.specs.Element.{length_form, wrap, BeginsWith, IsElement, Tagged}
use Rattle.it_der.specs.Element.{bytes_of, AreElements}
use Rattle.it_der.proofs.Lengths.{same_length}

-- what comes after the tag
pub after_tag : (tag : ℕ) (content rest bytes : List ℕ) → bytes ≡ wrap tag content ++ rest
    → bytes ≡ tag ∷ (length_form (length content) ++ (content ++ rest))
after_tag tag content rest bytes e =
    e ∙ ap (λ (x : List ℕ). tag ∷ x) (append_assoc (length_form (length content)) content rest)

-- two fronts of one length
pub same_front : (a b x y : List ℕ) → length a ≡ length b → a ++ x ≡ b ++ y → (a ≡ b) × (x ≡ y)
same_front [] [] x y long e = (refl, e)
same_front [] (b ∷ bs) x y long e = absurd (omega arith)
same_front (a ∷ xs) [] x y long e = absurd (omega arith)
same_front (a ∷ xs) (b ∷ bs) x y long e =
    let head : a ≡ b = cc in
    let tail : xs ++ x ≡ bs ++ y = cc in
    let rest = same_front xs bs x y (omega arith) tail in
    let first = rest.0 in
    let second = rest.1 in
    (cc, second)

-- bytes begin with an element in at most one way
pub one_first : (bytes : List ℕ) (tag tag' : ℕ) (content content' rest rest' : List ℕ)
    → BeginsWith bytes tag content rest → BeginsWith bytes tag' content' rest'
    → (tag ≡ tag') × (content ≡ content') × (rest ≡ rest')
one_first bytes tag tag' content content' rest rest' b b' =
    let one = after_tag tag content rest bytes b.written in
    let other = after_tag tag' content' rest' bytes b'.written in
    let both : tag ∷ (length_form (length content) ++ (content ++ rest))
    ≡ tag' ∷ (length_form (length content') ++ (content' ++ rest')) = sym one ∙ other in
    let lengths : length_form (length content) ++ (content ++ rest)
    ≡ length_form (length content') ++ (content' ++ rest') = cc in
    let parts = same_length (length content) (length content') (content ++ rest) (content' ++ rest') lengths in
    let pieces = same_front content content' rest rest' parts.0 parts.1 in
    (cc, pieces.0, pieces.1)

-- each content is short enough
abbrev pub AreShort : List Tagged → Type 0
AreShort elements = AllByRecursion (λ e. length e.content < 2 ^ 16) elements

pub short_more : (elements : List Tagged) (e : Tagged) → AreShort elements → length e.content < 2 ^ 16
    → AreShort (elements ++ e ∷ [])
short_more [] e all h = (h, tt)
short_more (x ∷ xs) e all h = (all.0, short_more xs e all.1 h)

-- the first of some elements begins their bytes
pub first_begins : (e : Tagged) (rest : List Tagged) → length e.content < 2 ^ 16
    → BeginsWith (bytes_of (e ∷ rest)) e.tag e.content (bytes_of rest)
first_begins e rest h = record { short = h; written = refl }

-- what comes after some of the elements that bytes are is elements
pub rest_is : (done others : List Tagged) (rest : List ℕ) → AreShort done → AreShort others
    → bytes_of done ++ rest ≡ bytes_of others → (more : List Tagged) × AreElements rest more
rest_is [] others rest all all' e = (others, record { short = all'; written = e })
rest_is (d ∷ ds) [] rest all all' e = absurd (cc)
rest_is (d ∷ ds) (o ∷ os) rest all all' e =
    let one : BeginsWith (bytes_of (o ∷ os)) d.tag d.content (bytes_of ds ++ rest) = record {
      short = all.0;
      written = sym e ∙ append_assoc (wrap d.tag d.content) (bytes_of ds) rest;
    } in
    let same = one_first (bytes_of (o ∷ os)) d.tag o.tag d.content o.content (bytes_of ds ++ rest) (bytes_of os) one (first_begins o os all'.0) in
    rest_is ds os rest all.1 all'.1 same.2

none_here : (rest : List ℕ) (more : List Tagged) → 0 < length rest
    → ((tag : ℕ) (content after : List ℕ) → BeginsWith rest tag content after → ⊥)
    → AreElements rest more → ⊥
none_here rest [] some none are = let empty : length rest ≡ 0 = ap length are.written in omega arith
none_here rest (m ∷ ms) some none are =
    none m.tag m.content (bytes_of ms) (record { short = are.short.0; written = are.written })

-- bytes are no elements, where no element begins what comes after some
pub no_elements : (bytes rest : List ℕ) (done others : List Tagged) → AreShort done
    → bytes ≡ bytes_of done ++ rest → 0 < length rest
    → ((tag : ℕ) (content after : List ℕ) → BeginsWith rest tag content after → ⊥)
    → AreElements bytes others → ⊥
no_elements bytes rest done others all e some none are =
    let left = rest_is done others rest all are.short (sym e ∙ are.written) in
    none_here rest left.0 some none left.1

made : ℕ → List ℕ → Tagged
made tag content = record { tag = tag; content = content }

same_tagged : (one other : Tagged) → one.tag ≡ other.tag → one.content ≡ other.content → one ≡ other
unfolding made
same_tagged one other tag content =
    ap (λ (t : ℕ). made t one.content) tag ∙ ap (λ (c : List ℕ). made other.tag c) content

same_elements : (elements others : List Tagged) → AreShort elements → AreShort others
    → bytes_of elements ≡ bytes_of others → elements ≡ others
same_elements [] [] all all' e = refl
same_elements [] (o ∷ os) all all' e = absurd (cc)
same_elements (x ∷ xs) [] all all' e = absurd (cc)
same_elements (x ∷ xs) (o ∷ os) all all' e =
    let one : BeginsWith (bytes_of (o ∷ os)) x.tag x.content (bytes_of xs) = record { short = all.0; written = sym e } in
    let same = one_first (bytes_of (o ∷ os)) x.tag o.tag x.content o.content (bytes_of xs) (bytes_of os) one (first_begins o os all'.0) in
    let head : x ≡ o = same_tagged x o same.0 same.1 in
    let rest : xs ≡ os = same_elements xs os all.1 all'.1 same.2 in
    cc

-- bytes are elements in at most one way
pub one_reading : (bytes : List ℕ) (elements others : List Tagged)
    → AreElements bytes elements → AreElements bytes others → elements ≡ others
one_reading bytes elements others one other =
    same_elements elements others one.short other.short (sym one.written ∙ other.written)

-- an element and nothing after it
pub begins_alone : (bytes : List ℕ) (tag : ℕ) (content : List ℕ) → IsElement bytes tag content → BeginsWith bytes tag content []
begins_alone bytes tag content is = record {
  short = is.short;
  written = is.written ∙ sym (append-nil (wrap tag content));
}

-- more bytes follow than an element has
pub not_alone : (bytes : List ℕ) (tag tag' : ℕ) (content content' rest : List ℕ) → BeginsWith bytes tag content rest
    → 0 < length rest → IsElement bytes tag' content' → ⊥
not_alone bytes tag tag' content content' rest begins some is =
    let same = one_first bytes tag tag' content content' rest [] begins (begins_alone bytes tag' content' is) in
    let long = ap length same.2 in omega arith

-- what is left after a place
pub rest_from : (bytes : List ℕ) (place : ℕ) → take (length bytes - place) (drop place bytes) ≡ drop place bytes
rest_from bytes place = take_all (length bytes - place) (drop place bytes) (omega (arith, length-drop place bytes))

after_first : (bytes : List ℕ) (b : ℕ) (rest : List ℕ) → bytes ≡ b ∷ rest → take (length bytes - 1) (drop 1 bytes) ≡ rest
after_first bytes b rest e = rw e (take_all (suc (length rest) - 1) rest (omega arith))

-- fewer bytes follow the length than it says
pub too_short : (bytes after : List ℕ) (number tag : ℕ) (content rest : List ℕ)
    → take (length bytes - 1) (drop 1 bytes) ≡ length_form number ++ after → length after < number
    → BeginsWith bytes tag content rest → ⊥
too_short bytes after number tag content rest reads few begins =
    let whole = after_tag tag content rest bytes begins.written in
    let tail : length_form (length content) ++ (content ++ rest) ≡ length_form number ++ after =
    sym (after_first bytes tag _ whole) ∙ reads in
    let same = same_length (length content) number (content ++ rest) after tail in
    let count : length content ≡ number = same.0 in
    let long : length content + length rest ≡ length after = sym (length-append content rest) ∙ ap length same.1 in
    omega arith
