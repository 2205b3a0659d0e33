-- Extensions, one after another.
use Rattle.std.proofs.Common.{◌≡◌, ℕ, ◌+◌, ◌<◌, zero, suc, Bool, true, false, List, [], ◌∷◌, ◌++◌, length, get_or, take, map}
use Rattle.std.proofs.Common.{Bor, refl, sym, ap, subst, ◌∙◌, arith}
use Rattle.std.specs.List.{AllZip}
use Rattle.std.proofs.lemmas.List.{take_more, length-map, map-append}
use Rattle.it_der.specs.Element.{IsElement, AreElements, Tagged, tagged_of}
use Rattle.it_der.specs.declared.elements.Element.{Element}
use Rattle.it_certificate.specs.declared.extension.Extension.{Extension}
use Rattle.it_der.proofs.Reading.{one_reading}
use Rattle.it_certificate.specs.Parts.{with_tags}
use Rattle.it_certificate.specs.Extension.{Stated, IsExtension, HoldsExtension, AreExtensions, extension_elements, stated_of}
use Rattle.it_certificate.proofs.Tags.{content_at}
use Rattle.it_certificate.proofs.OneWay.{one_content}

pub as_critical : (xs : List (Bor (List ℕ))) (d : Bor (List ℕ)) (content : List ℕ) → length xs ≡ 3
    → AreElements content (with_tags (6 ∷ 1 ∷ 4 ∷ []) (map (λ c. c.now) xs))
    → AreElements content (with_tags (6 ∷ 1 ∷ 4 ∷ []) ((get_or xs 0 d).now ∷ (get_or xs 1 d).now ∷ (get_or xs 2 d).now ∷ []))
as_critical [] d content long are = absurd (omega arith)
as_critical (a ∷ []) d content long are = absurd (omega arith)
as_critical (a ∷ b ∷ []) d content long are = absurd (omega arith)
as_critical (a ∷ b ∷ c ∷ []) d content long are = are
as_critical (a ∷ b ∷ c ∷ x ∷ xs) d content long are = absurd (omega arith)

pub critical_read : (content a b c : List ℕ) → AreElements content (with_tags (6 ∷ 1 ∷ 4 ∷ []) (a ∷ b ∷ c ∷ [])) → b ≡ 255 ∷ []
    → AreElements content (extension_elements true a c)
critical_read content a b c are is =
    subst (λ (x : List ℕ). AreElements content (with_tags (6 ∷ 1 ∷ 4 ∷ []) (a ∷ x ∷ c ∷ []))) is are

pub other_boolean : (content a b c : List ℕ) → AreElements content (with_tags (6 ∷ 1 ∷ 4 ∷ []) (a ∷ b ∷ c ∷ [])) → (b ≡ 255 ∷ [] → ⊥)
    → (id value : List ℕ) → AreElements content (extension_elements true id value) → ⊥
unfolding content_at
other_boolean content a b c are differ id value others =
    differ (ap (content_at 1) (one_reading content (with_tags (6 ∷ 1 ∷ 4 ∷ []) (a ∷ b ∷ c ∷ [])) (extension_elements true id value) are others))

-- two readings of an extension are one
tags_differ : (content id value other rest : List ℕ) → AreElements content (extension_elements true id value)
    → AreElements content (extension_elements false other rest) → ⊥
tags_differ content id value other rest one two =
    let same = one_reading content (extension_elements true id value) (extension_elements false other rest) one two in
    let sizes : ◌≡◌ {A = ℕ} 3 2 = ap (λ (es : List Tagged). length es) same in
    omega arith

stated : Bool → List ℕ → List ℕ → Stated
stated critical id value = record { id = id; critical = critical; value = value }

one_stated : (content id value id' value' : List ℕ) (critical critical' : Bool)
    → AreElements content (extension_elements critical id value) → AreElements content (extension_elements critical' id' value')
    → stated critical id value ≡ stated critical' id' value'
unfolding content_at stated
one_stated content id value id' value' true true one two =
    let same = one_reading content (extension_elements true id value) (extension_elements true id' value') one two in
    ap (λ (es : List Tagged). stated true (content_at 0 es) (content_at 2 es)) same
one_stated content id value id' value' true false one two = absurd (tags_differ content id value id' value' one two)
one_stated content id value id' value' false true one two = absurd (tags_differ content id' value' id value two one)
one_stated content id value id' value' false false one two =
    let same = one_reading content (extension_elements false id value) (extension_elements false id' value') one two in
    ap (λ (es : List Tagged). stated false (content_at 0 es) (content_at 1 es)) same

pub one_extension : (content : List ℕ) (e other : Stated) → IsExtension content e → IsExtension content other → e ≡ other
unfolding stated
one_extension content e other one two = one_stated content e.id e.value other.id other.value e.critical other.critical one two

same_each : (elements : List Tagged) (extensions others : List Stated) → AllZip HoldsExtension elements extensions
    → AllZip HoldsExtension elements others → extensions ≡ others
same_each [] [] [] one two = refl
same_each [] [] (o ∷ os) one two = absurd two
same_each [] (e ∷ es) others one two = absurd one
same_each (t ∷ ts) [] others one two = absurd one
same_each (t ∷ ts) (e ∷ es) [] one two = absurd two
same_each (t ∷ ts) (e ∷ es) (o ∷ os) one two =
    let head : e ≡ o = one_extension t.content e o one.0.1 two.0.1 in
    let rest : es ≡ os = same_each ts es os one.1 two.1 in
    cc

-- the elements of the extensions, where they are read
pub these_each : (content inner : List ℕ) (elements : List Tagged) (extensions : List Stated) → IsElement content 48 inner → AreElements inner elements
    → AreExtensions content extensions → AllZip HoldsExtension elements extensions
these_each content inner elements extensions whole are is =
    let same : is.inner ≡ inner = one_content content is.inner inner is.whole whole in
    let theirs : AreElements inner is.elements = subst (λ (x : List ℕ). AreElements x is.elements) same is.are in
    subst (λ (es : List Tagged). AllZip HoldsExtension es extensions) (one_reading inner is.elements elements theirs are) is.each

pub one_list : (content : List ℕ) (extensions others : List Stated) → AreExtensions content extensions → AreExtensions content others
    → extensions ≡ others
one_list content extensions others one two =
    same_each one.elements extensions others one.each (these_each content one.inner one.elements others one.whole one.are two)

pub no_inner_elements : (content inner : List ℕ) → IsElement content 48 inner → ((elements : List Tagged) → AreElements inner elements → ⊥)
    → (extensions : List Stated) → AreExtensions content extensions → ⊥
no_inner_elements content inner whole none extensions is =
    none is.elements (subst (λ (x : List ℕ). AreElements x is.elements) (one_content content is.inner inner is.whole whole) is.are)

-- what is at a place
pub held_at : (elements : List Tagged) (extensions : List Stated) (i : ℕ) (d : Tagged) → AllZip HoldsExtension elements extensions → i < length elements
    → (e : Stated) × HoldsExtension (get_or elements i d) e
held_at [] extensions i d each h = absurd (omega arith)
held_at (t ∷ ts) [] i d each h = absurd each
held_at (t ∷ ts) (e ∷ es) zero d each h = (e, each.0)
held_at (t ∷ ts) (e ∷ es) (suc i) d each h = held_at ts es i d each.1 (omega arith)

-- one more extension
pub each_more : (elements : List Tagged) (extensions : List Stated) (t : Tagged) (e : Stated) → AllZip HoldsExtension elements extensions
    → HoldsExtension t e → AllZip HoldsExtension (elements ++ t ∷ []) (extensions ++ e ∷ [])
each_more [] [] t e each h = (h, tt)
each_more [] (x ∷ xs) t e each h = absurd each
each_more (t' ∷ ts) [] t e each h = absurd each
each_more (t' ∷ ts) (x ∷ xs) t e each h = (each.0, each_more ts xs t e each.1 h)

-- the critical extension, read at its places
pub critical_is : (content : List ℕ) (xs : List (Bor (List ℕ))) (a b c : Bor (List ℕ)) → xs ≡ a ∷ b ∷ c ∷ []
    → AreElements content (with_tags (6 ∷ 1 ∷ 4 ∷ []) (map (λ x. x.now) xs)) → b.now ≡ 255 ∷ []
    → AreElements content (extension_elements true a.now c.now)
critical_is content xs a b c is are true_is =
    critical_read content a.now b.now c.now
    (subst (λ (l : List (Bor (List ℕ))). AreElements content (with_tags (6 ∷ 1 ∷ 4 ∷ []) (map (λ (x : Bor (List ℕ)). x.now) l))) is are) true_is

get_tagged : (items : List Element) (i : ℕ) (d : Element) → get_or (map tagged_of items) i (tagged_of d) ≡ tagged_of (get_or items i d)
get_tagged [] i d = refl
get_tagged (e ∷ es) zero d = refl
get_tagged (e ∷ es) (suc i) d = get_tagged es i d

-- what every list of extensions has at a place
at_place : (content inner : List ℕ) (items : List Element) (i : ℕ) (d : Element) → IsElement content 48 inner → AreElements inner (map tagged_of items)
    → i < length items → (extensions : List Stated) → AreExtensions content extensions → (e : Stated) × HoldsExtension (tagged_of (get_or items i d)) e
at_place content inner items i d whole are h extensions is =
    let long : length (map tagged_of items) ≡ length items = length-map items tagged_of in
    let held = held_at (map tagged_of items) extensions i (tagged_of d) (these_each content inner (map tagged_of items) extensions whole are is) (omega arith) in
    (held.0, subst (λ (t : Tagged). HoldsExtension t held.0) (get_tagged items i d) held.1)

pub other_tag : (content inner : List ℕ) (read items : List Element) (i : ℕ) (d : Element) → IsElement content 48 inner → AreElements inner (map tagged_of items)
    → read ≡ items → i < length read → ((get_or read i d).tag ≡ 48 → ⊥) → (extensions : List Stated) → AreExtensions content extensions → ⊥
other_tag content inner read items i d whole are same h differ extensions is =
    let place = at_place content inner read i d whole (subst (λ (l : List Element). AreElements inner (map tagged_of l)) (sym same) are) h extensions is in
    differ place.1.0

pub other_value : (content inner : List ℕ) (read items : List Element) (i : ℕ) (d : Element) → IsElement content 48 inner → AreElements inner (map tagged_of items)
    → read ≡ items → i < length read → ((e : Stated) → IsExtension (get_or read i d).content.now e → ⊥) → (extensions : List Stated) → AreExtensions content extensions → ⊥
other_value content inner read items i d whole are same h none extensions is =
    let place = at_place content inner read i d whole (subst (λ (l : List Element). AreElements inner (map tagged_of l)) (sym same) are) h extensions is in
    none place.0 place.1.1

-- one more extension is read
pub more_read : (read : List Element) (i : ℕ) (d : Element) (done new : List Extension) (x : Extension) → i < length read
    → AllZip HoldsExtension (take i (map tagged_of read)) (map stated_of done) → new ≡ done ++ x ∷ []
    → (get_or read i d).tag ≡ 48 → IsExtension (get_or read i d).content.now (stated_of x)
    → AllZip HoldsExtension (take (i + 1) (map tagged_of read)) (map stated_of new)
more_read read i d done new x h each is tag value =
    let long : length (map tagged_of read) ≡ length read = length-map read tagged_of in
    let front : take (i + 1) (map tagged_of read) ≡ take i (map tagged_of read) ++ tagged_of (get_or read i d) ∷ [] =
    take_more (map tagged_of read) i (tagged_of d) (omega arith) ∙ ap (λ (t : Tagged). take i (map tagged_of read) ++ t ∷ []) (get_tagged read i d) in
    let back : map stated_of new ≡ map stated_of done ++ stated_of x ∷ [] = ap (map stated_of) is ∙ map-append stated_of done (x ∷ []) in
    subst (λ (ts : List Tagged). AllZip HoldsExtension ts (map stated_of new)) (sym front)
    (subst (λ (es : List Stated). AllZip HoldsExtension (take i (map tagged_of read) ++ tagged_of (get_or read i d) ∷ []) es) (sym back)
    (each_more (take i (map tagged_of read)) (map stated_of done) (tagged_of (get_or read i d)) (stated_of x) each (tag, value)))
