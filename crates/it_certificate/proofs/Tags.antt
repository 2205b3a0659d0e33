-- Elements by their tags and their contents.
use Rattle.std.proofs.Common.{◌≡◌, ◌≢◌, ℕ, ◌<◌, List, [], ◌∷◌, length, get_or, map}
use Rattle.std.proofs.Common.{Bor, refl, sym, ap, subst, ◌∙◌, arith}
use Rattle.std.proofs.Common.{Bool, true, false, not, nat_eq}
use Rattle.std.specs.Cmp.Lexicographic.{pointwise}
use Rattle.std.proofs.lemmas.Bool.{not-false}
use Rattle.std.proofs.lemmas.Bool.Decides.{Decides-eqb}
use Rattle.std.proofs.lemmas.List.{length-map, get_or_default}
use Rattle.std.proofs.lemmas.Slice.Eq.{slice_eq-Decides}
use Rattle.it_der.specs.Element.{AreElements, Tagged, tagged_of}
use Rattle.it_der.specs.declared.elements.Element.{Element}
use Rattle.it_der.proofs.Reading.{one_reading}
use Rattle.it_certificate.specs.Parts.{with_tags, outer_tags, outer_elements, signed_tags, signed_elements}
use Rattle.it_certificate.specs.Parts.{Parts, AreSigned}

-- what a comparison of bytes says
pub differs : (xs ys : List ℕ) (t : Bool) → t ≡ not (pointwise nat_eq xs ys) → t ≡ true → xs ≡ ys → ⊥
differs xs ys t e h same =
    let is : pointwise nat_eq xs ys ≡ true = (slice_eq-Decides Decides-eqb xs ys (pointwise nat_eq xs ys) refl).1 same in
    let no : true ≡ false = sym h ∙ e ∙ ap not is in cc

pub agrees : (xs ys : List ℕ) (t : Bool) → t ≡ not (pointwise nat_eq xs ys) → t ≡ false → xs ≡ ys
agrees xs ys t e h = (slice_eq-Decides Decides-eqb xs ys (pointwise nat_eq xs ys) refl).0 (not-false (pointwise nat_eq xs ys) (sym e ∙ h))

-- elements that were read are those of their tags and their contents
retagged : (items : List Element) → with_tags (map (λ e. e.tag) items) (map (λ c. c.now) (map (λ e. e.content) items)) ≡ map tagged_of items
retagged [] = refl
retagged (e ∷ es) = ap (λ (xs : List Tagged). tagged_of e ∷ xs) (retagged es)

tags_of : (items : List Element) → map (λ e. e.tag) (map tagged_of items) ≡ map (λ e. e.tag) items
tags_of [] = refl
tags_of (e ∷ es) = ap (λ (xs : List ℕ). e.tag ∷ xs) (tags_of es)

pub with_them : (bytes tags found : List ℕ) (items : List Element) (contents : List (Bor (List ℕ))) → AreElements bytes (map tagged_of items)
    → found ≡ map (λ e. e.tag) items → found ≡ tags → contents ≡ map (λ e. e.content) items
    → (length contents ≡ length tags) × AreElements bytes (with_tags tags (map (λ c. c.now) contents))
with_them bytes tags found items contents are read same is =
    let tags_are : map (λ (e : Element). e.tag) items ≡ tags = sym read ∙ same in (
      ap length is ∙ length-map items (λ (e : Element). e.content) ∙ sym (length-map items (λ (e : Element). e.tag)) ∙ ap length tags_are,
      subst (λ (ts : List ℕ). AreElements bytes (with_tags ts (map (λ (c : Bor (List ℕ)). c.now) contents))) tags_are
          (subst (λ (cs : List (Bor (List ℕ))). AreElements bytes (with_tags (map (λ (e : Element). e.tag) items) (map (λ (c : Bor (List ℕ)). c.now) cs))) (sym is)
          (subst (λ (es : List Tagged). AreElements bytes es) (sym (retagged items)) are)),
    )

-- the bytes are no elements of other tags than they have
pub other_tags : (bytes tags found : List ℕ) (items : List Element) → AreElements bytes (map tagged_of items) → found ≡ map (λ e. e.tag) items
    → found ≢ tags → (elements : List Tagged) → AreElements bytes elements → map (λ e. e.tag) elements ≡ tags → ⊥
other_tags bytes tags found items are read differ elements others e =
    differ (read ∙ sym (tags_of items) ∙ ap (λ (es : List Tagged). map (λ (e : Tagged). e.tag) es) (one_reading bytes (map tagged_of items) elements are others) ∙ e)

-- what was read at one place twice
pub same_place : (xs : List (Bor (List ℕ))) (i : ℕ) (a b : Bor (List ℕ)) → i < length xs → a ≡ get_or xs i a → b ≡ get_or xs i b → a ≡ b
same_place xs i a b h e f = e ∙ get_or_default xs i a b h ∙ sym f

-- a list is what was read at its places
pub three_is : (xs : List (Bor (List ℕ))) (a b c : Bor (List ℕ)) → length xs ≡ 3 → a ≡ get_or xs 0 a → b ≡ get_or xs 1 b → c ≡ get_or xs 2 c
    → xs ≡ a ∷ b ∷ c ∷ []
three_is [] a b c long e f g = absurd (omega arith)
three_is (x ∷ []) a b c long e f g = absurd (omega arith)
three_is (x ∷ y ∷ []) a b c long e f g = absurd (omega arith)
three_is (x ∷ y ∷ z ∷ []) a b c long e f g = cc
three_is (x ∷ y ∷ z ∷ w ∷ xs) a b c long e f g = absurd (omega arith)

pub eight_is : (xs : List (Bor (List ℕ))) (a b c d e f g h : Bor (List ℕ)) → length xs ≡ 8 → a ≡ get_or xs 0 a → b ≡ get_or xs 1 b → c ≡ get_or xs 2 c
    → d ≡ get_or xs 3 d → e ≡ get_or xs 4 e → f ≡ get_or xs 5 f → g ≡ get_or xs 6 g → h ≡ get_or xs 7 h
    → xs ≡ a ∷ b ∷ c ∷ d ∷ e ∷ f ∷ g ∷ h ∷ []
eight_is [] a b c d e f g h long i j k l m n o p = absurd (omega arith)
eight_is (s ∷ []) a b c d e f g h long i j k l m n o p = absurd (omega arith)
eight_is (s ∷ t ∷ []) a b c d e f g h long i j k l m n o p = absurd (omega arith)
eight_is (s ∷ t ∷ u ∷ []) a b c d e f g h long i j k l m n o p = absurd (omega arith)
eight_is (s ∷ t ∷ u ∷ v ∷ []) a b c d e f g h long i j k l m n o p = absurd (omega arith)
eight_is (s ∷ t ∷ u ∷ v ∷ w ∷ []) a b c d e f g h long i j k l m n o p = absurd (omega arith)
eight_is (s ∷ t ∷ u ∷ v ∷ w ∷ x ∷ []) a b c d e f g h long i j k l m n o p = absurd (omega arith)
eight_is (s ∷ t ∷ u ∷ v ∷ w ∷ x ∷ y ∷ []) a b c d e f g h long i j k l m n o p = absurd (omega arith)
eight_is (s ∷ t ∷ u ∷ v ∷ w ∷ x ∷ y ∷ z ∷ []) a b c d e f g h long i j k l m n o p = cc
eight_is (s ∷ t ∷ u ∷ v ∷ w ∷ x ∷ y ∷ z ∷ q ∷ xs) a b c d e f g h long i j k l m n o p = absurd (omega arith)

-- the content of an element
unfoldable pub content_at : ℕ → List Tagged → List ℕ
content_at i elements = (get_or elements i (record { tag = 0; content = [] })).content

pub as_three : (xs : List (Bor (List ℕ))) (d : Bor (List ℕ)) (content : List ℕ) → length xs ≡ 3
    → AreElements content (with_tags outer_tags (map (λ c. c.now) xs))
    → AreElements content (with_tags outer_tags ((get_or xs 0 d).now ∷ (get_or xs 1 d).now ∷ (get_or xs 2 d).now ∷ []))
as_three [] d content long are = absurd (omega arith)
as_three (a ∷ []) d content long are = absurd (omega arith)
as_three (a ∷ b ∷ []) d content long are = absurd (omega arith)
as_three (a ∷ b ∷ c ∷ []) d content long are = are
as_three (a ∷ b ∷ c ∷ x ∷ xs) d content long are = absurd (omega arith)

pub as_eight : (xs : List (Bor (List ℕ))) (d : Bor (List ℕ)) (content : List ℕ) → length xs ≡ 8
    → AreElements content (with_tags signed_tags (map (λ c. c.now) xs))
    → AreElements content (with_tags signed_tags ((get_or xs 0 d).now ∷ (get_or xs 1 d).now ∷ (get_or xs 2 d).now ∷ (get_or xs 3 d).now
    ∷ (get_or xs 4 d).now ∷ (get_or xs 5 d).now ∷ (get_or xs 6 d).now ∷ (get_or xs 7 d).now ∷ []))
as_eight [] d content long are = absurd (omega arith)
as_eight (a ∷ []) d content long are = absurd (omega arith)
as_eight (a ∷ b ∷ []) d content long are = absurd (omega arith)
as_eight (a ∷ b ∷ c ∷ []) d content long are = absurd (omega arith)
as_eight (a ∷ b ∷ c ∷ e ∷ []) d content long are = absurd (omega arith)
as_eight (a ∷ b ∷ c ∷ e ∷ f ∷ []) d content long are = absurd (omega arith)
as_eight (a ∷ b ∷ c ∷ e ∷ f ∷ g ∷ []) d content long are = absurd (omega arith)
as_eight (a ∷ b ∷ c ∷ e ∷ f ∷ g ∷ h ∷ []) d content long are = absurd (omega arith)
as_eight (a ∷ b ∷ c ∷ e ∷ f ∷ g ∷ h ∷ i ∷ []) d content long are = are
as_eight (a ∷ b ∷ c ∷ e ∷ f ∷ g ∷ h ∷ i ∷ x ∷ xs) d content long are = absurd (omega arith)

-- the third of the elements of a certificate begins with a 0
pub signature_begins : (content a b c : List ℕ) → AreElements content (with_tags outer_tags (a ∷ b ∷ c ∷ []))
    → (signed algorithm signature : List ℕ) → AreElements content (outer_elements signed algorithm signature) → c ≡ 0 ∷ signature
unfolding content_at
signature_begins content a b c are signed algorithm signature others =
    ap (content_at 2) (one_reading content (with_tags outer_tags (a ∷ b ∷ c ∷ [])) (outer_elements signed algorithm signature) are others)

pub no_signature : (content a b c : List ℕ) → AreElements content (with_tags outer_tags (a ∷ b ∷ c ∷ [])) → length c ≡ 0
    → (signed algorithm signature : List ℕ) → AreElements content (outer_elements signed algorithm signature) → ⊥
no_signature content a b c are none signed algorithm signature others =
    let long = ap length (signature_begins content a b c are signed algorithm signature others) in omega arith

pub bits_left : (content a b c : List ℕ) → AreElements content (with_tags outer_tags (a ∷ b ∷ c ∷ [])) → (get_or c 0 0 ≡ 0 → ⊥)
    → (signed algorithm signature : List ℕ) → AreElements content (outer_elements signed algorithm signature) → ⊥
bits_left content a b c are some signed algorithm signature others =
    some (ap (λ (xs : List ℕ). get_or xs 0 0) (signature_begins content a b c are signed algorithm signature others))

-- the parts that are signed, of their elements
pub other_version : (content a b c d e f g h : List ℕ) → AreElements content (with_tags signed_tags (a ∷ b ∷ c ∷ d ∷ e ∷ f ∷ g ∷ h ∷ []))
    → (a ≡ 2 ∷ 1 ∷ 2 ∷ [] → ⊥) → (p : Parts) → AreSigned content p → ⊥
unfolding content_at
other_version content a b c d e f g h are differ p is =
    differ (ap (content_at 0) (one_reading content (with_tags signed_tags (a ∷ b ∷ c ∷ d ∷ e ∷ f ∷ g ∷ h ∷ [])) (signed_elements p) are is.elements))

pub no_serial : (content a b c d e f g h : List ℕ) → AreElements content (with_tags signed_tags (a ∷ b ∷ c ∷ d ∷ e ∷ f ∷ g ∷ h ∷ []))
    → b ≡ [] → (p : Parts) → AreSigned content p → ⊥
unfolding content_at
no_serial content a b c d e f g h are none p is =
    is.serial_some (sym (ap (content_at 1) (one_reading content (with_tags signed_tags (a ∷ b ∷ c ∷ d ∷ e ∷ f ∷ g ∷ h ∷ [])) (signed_elements p) are is.elements)) ∙ none)

-- the parts that are signed, read at their places
pub signed_read : (content : List ℕ) (xs : List (Bor (List ℕ))) (a b c d e f g h : Bor (List ℕ)) → xs ≡ a ∷ b ∷ c ∷ d ∷ e ∷ f ∷ g ∷ h ∷ []
    → AreElements content (with_tags signed_tags (map (λ x. x.now) xs)) → a.now ≡ 2 ∷ 1 ∷ 2 ∷ []
    → AreElements content (with_tags signed_tags ((2 ∷ 1 ∷ 2 ∷ []) ∷ b.now ∷ c.now ∷ d.now ∷ e.now ∷ f.now ∷ g.now ∷ h.now ∷ []))
signed_read content xs a b c d e f g h is are version =
    subst (λ (v : List ℕ). AreElements content (with_tags signed_tags (v ∷ b.now ∷ c.now ∷ d.now ∷ e.now ∷ f.now ∷ g.now ∷ h.now ∷ []))) version
    (subst (λ (l : List (Bor (List ℕ))). AreElements content (with_tags signed_tags (map (λ (x : Bor (List ℕ)). x.now) l))) is are)

pub not_none : (xs : List (Bor (List ℕ))) (a b : Bor (List ℕ)) → 1 < length xs → a ≡ get_or xs 1 a → b ≡ get_or xs 1 b → 0 < length a.now
    → b.now ≡ [] → ⊥
not_none xs a b h e f some none =
    let same : a ≡ b = same_place xs 1 a b h e f in
    let long : length a.now ≡ 0 = ap (λ (x : Bor (List ℕ)). length x.now) same ∙ ap length none in
    omega arith
