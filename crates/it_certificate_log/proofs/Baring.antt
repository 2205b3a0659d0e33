-- A certificate without its timestamps: how it is written, and that it is no longer.
use Rattle.std.proofs.Common.{◌≡◌, ℕ, zero, suc, ◌+◌, ◌^◌, ◌<◌, ◌≤◌, Bool, true, false, not, cond, List, [], ◌∷◌, ◌++◌}
use Rattle.std.proofs.Common.{length, get_or, take, map, refl, sym, ap, subst, ◌∙◌, arith, append-nil, append_assoc, length-append}
use Rattle.std.proofs.lemmas.List.{map_more, take_all}
use Rattle.std.proofs.lemmas.Grind.{flat_map-append}
use Rattle.std.proofs.lemmas.List.Elements.{filter-append}
use Rattle.std.specs.List.{AllByRecursion, AllZip, filter, flat_map}
use Rattle.std.specs.Str.{bytes_eq}
use Rattle.it_der.specs.Element.{Tagged, bytes_of, length_form, wrap}
use Rattle.it_der.proofs.Lengths.{FormOf, short, one_byte, two_bytes, form_of}
use Rattle.it_certificate.specs.Certificate.{CertificateOf, Facts}
use Rattle.it_certificate.specs.Extension.{AreExtensions, HoldsExtension, IsExtension, Stated, extension_elements, stated_of}
use Rattle.it_certificate.specs.Identifiers.{timestamps}
use Rattle.it_certificate.specs.declared.extension.Extension.{Extension}
use Rattle.it_certificate.specs.Parts.{signed_elements}
use Rattle.it_certificate_log.specs.Bare.{extension_bytes, extensions_part, is_other, with_extensions}
use Rattle.it_certificate_log.specs.inside.Critical.{critical_bytes}
use Rattle.it_certificate_log.specs.inside.Short.{IsShortExtension}

abbrev pub AreShort : List Tagged → Type 0
AreShort elements = AllByRecursion (λ e. length e.content < 2 ^ 16) elements

-- the extensions up to a place, and one more
abbrev pub others : List Extension → ℕ → List ℕ
others xs i = flat_map extension_bytes (filter is_other (map stated_of (take i xs)))

pub others_more : (old new : List ℕ) (xs : List Extension) (i : ℕ) (d : Extension) → i < length xs → old ≡ others xs i
    → new ≡ old ++ flat_map extension_bytes (filter is_other (stated_of (get_or xs i d) ∷ [])) → new ≡ others xs (i + 1)
others_more old new xs i d h before after =
    let front : map stated_of (take (i + 1) xs) ≡ map stated_of (take i xs) ++ stated_of (get_or xs i d) ∷ [] = map_more stated_of xs i d h in
    let step : others xs (i + 1) ≡ others xs i ++ flat_map extension_bytes (filter is_other (stated_of (get_or xs i d) ∷ [])) =
    ap (λ (l : List Stated). flat_map extension_bytes (filter is_other l)) front
    ∙ ap (λ (l : List Stated). flat_map extension_bytes l) (filter-append is_other (map stated_of (take i xs)) (stated_of (get_or xs i d) ∷ []))
    ∙ flat_map-append extension_bytes (filter is_other (map stated_of (take i xs))) (filter is_other (stated_of (get_or xs i d) ∷ [])) in
    after ∙ ap (λ (l : List ℕ). l ++ flat_map extension_bytes (filter is_other (stated_of (get_or xs i d) ∷ []))) before ∙ sym step

-- all of them
others_whole : (done : List ℕ) (xs : List Extension) (i : ℕ) → length xs ≤ i → done ≡ others xs i
    → done ≡ flat_map extension_bytes (filter is_other (map stated_of xs))
others_whole done xs i h is =
    is ∙ ap (λ (l : List Extension). flat_map extension_bytes (filter is_other (map stated_of l))) (take_all i xs h)

-- every extension that was read is short enough
each_read : (elements : List Tagged) (xs : List Extension) (i : ℕ) (d : Extension) → AreShort elements
    → AllZip HoldsExtension elements (map stated_of xs) → i < length xs → IsShortExtension (stated_of (get_or xs i d))
each_read elements [] i d all each h = absurd (omega arith)
each_read [] (x ∷ xs) i d all each h = absurd each
each_read (e ∷ es) (x ∷ xs) zero d all each h = record { content = e.content; short = all.0; is = each.0.1 }
each_read (e ∷ es) (x ∷ xs) (suc i) d all each h = each_read es xs i d all.1 each.1 (omega arith)

pub read_at : (content : List ℕ) (xs : List Extension) (i : ℕ) (d : Extension) → AreExtensions content (map stated_of xs)
    → i < length xs → IsShortExtension (stated_of (get_or xs i d))
read_at content xs i d are h = each_read are.elements xs i d are.are.short are.each h

-- the part that was read is its extensions
each_written : (elements : List Tagged) (extensions : List Stated) → AllZip HoldsExtension elements extensions
    → bytes_of elements ≡ flat_map extension_bytes extensions
each_written [] [] each = refl
each_written [] (x ∷ xs) each = absurd each
each_written (e ∷ es) [] each = absurd each
each_written (e ∷ es) (x ∷ xs) each =
    let head : wrap e.tag e.content ≡ extension_bytes x =
    ap (λ (t : ℕ). wrap t e.content) each.0.0 ∙ ap (λ (c : List ℕ). wrap 48 c) each.0.1.written in
    ap (λ (l : List ℕ). l ++ bytes_of es) head ∙ ap (λ (l : List ℕ). extension_bytes x ++ l) (each_written es xs each.1)

pub record IsPartOf (content : List ℕ) (extensions : List Stated) : Type 0 where
  pub short : length (flat_map extension_bytes extensions) < 2 ^ 16
  pub written : content ≡ extensions_part extensions

pub part_is : (content : List ℕ) (extensions : List Stated) → AreExtensions content extensions → IsPartOf content extensions
part_is content extensions are =
    let inner : are.inner ≡ flat_map extension_bytes extensions = are.are.written ∙ each_written are.elements extensions are.each in
    record {
      short = subst (λ (l : List ℕ). length l < 2 ^ 16) inner are.whole.short;
      written = are.whole.written ∙ ap (λ (l : List ℕ). wrap 48 l) inner;
    }

-- fewer extensions take no more bytes
kept_or_not : (b : Bool) (x : Stated) (kept all : List Stated) → length (flat_map extension_bytes kept) ≤ length (flat_map extension_bytes all)
    → length (flat_map extension_bytes (cond b (x ∷ kept) kept)) ≤ length (flat_map extension_bytes (x ∷ all))
kept_or_not true x kept all h = omega (
  arith,
  length-append (extension_bytes x) (flat_map extension_bytes kept),
  length-append (extension_bytes x) (flat_map extension_bytes all),
)
kept_or_not false x kept all h = omega (arith, length-append (extension_bytes x) (flat_map extension_bytes all))

pub no_longer : (extensions : List Stated)
    → length (flat_map extension_bytes (filter is_other extensions)) ≤ length (flat_map extension_bytes extensions)
no_longer [] = omega arith
no_longer (x ∷ xs) = kept_or_not (is_other x) x (filter is_other xs) xs (no_longer xs)

-- a longer content has no shorter length
by_forms : (m n : ℕ) → FormOf m → FormOf n → m ≤ n → length (length_form m) ≤ length (length_form n)
by_forms m n (short h e) (short k f) le = rw (e, f) (omega arith)
by_forms m n (short h e) (one_byte k l f) le = rw (e, f) (omega arith)
by_forms m n (short h e) (two_bytes k f) le = rw (e, f) (omega arith)
by_forms m n (one_byte h l e) (short k f) le = absurd (omega arith)
by_forms m n (one_byte h l e) (one_byte k o f) le = rw (e, f) (omega arith)
by_forms m n (one_byte h l e) (two_bytes k f) le = rw (e, f) (omega arith)
by_forms m n (two_bytes h e) (short k f) le = absurd (omega arith)
by_forms m n (two_bytes h e) (one_byte k l f) le = absurd (omega arith)
by_forms m n (two_bytes h e) (two_bytes k f) le = rw (e, f) (omega arith)

pub wrap_grows : (tag : ℕ) (x y : List ℕ) → length x ≤ length y → length (wrap tag x) ≤ length (wrap tag y)
wrap_grows tag x y le = omega (
  arith,
  by_forms (length x) (length y) (form_of (length x)) (form_of (length y)) le,
  length-append (length_form (length x)) x,
  length-append (length_form (length y)) y,
)

pub part_no_longer : (extensions : List Stated) → length (extensions_part (filter is_other extensions)) ≤ length (extensions_part extensions)
part_no_longer extensions =
    wrap_grows 48 (flat_map extension_bytes (filter is_other extensions)) (flat_map extension_bytes extensions) (no_longer extensions)

form_few : (n : ℕ) → FormOf n → length (length_form n) ≤ 3
form_few n (short h e) = rw e (omega arith)
form_few n (one_byte h l e) = rw e (omega arith)
form_few n (two_bytes h e) = rw e (omega arith)

pub wrap_few : (tag : ℕ) (x : List ℕ) → length x < 2 ^ 16 → length (wrap tag x) < 2 ^ 24
wrap_few tag x h = omega (arith, form_few (length x) (form_of (length x)), length-append (length_form (length x)) x)

pub others_short : (content done : List ℕ) (xs : List Extension) (i : ℕ) → AreExtensions content (map stated_of xs)
    → length xs ≤ i → done ≡ others xs i → length done < 2 ^ 16
others_short content done xs i are h is =
    let whole : length done ≡ length (flat_map extension_bytes (filter is_other (map stated_of xs))) = ap length (others_whole done xs i h is) in
    let part = part_is content (map stated_of xs) are in
    omega (arith, no_longer (map stated_of xs), part.short)

pub others_all : (done lent new : List ℕ) (xs : List Extension) (i : ℕ) → length xs ≤ i → done ≡ others xs i → lent ≡ done
    → (old : List ℕ) → old ≡ [] → new ≡ old ++ wrap 48 lent → new ≡ extensions_part (filter is_other (map stated_of xs))
others_all done lent new xs i h is same old none after =
    after ∙ ap (λ (l : List ℕ). l ++ wrap 48 lent) none ∙ ap (λ (l : List ℕ). wrap 48 l) (same ∙ others_whole done xs i h is)

-- the elements of an extension
elements_short : (b : Bool) (id value : List ℕ) → AreShort (extension_elements b id value) → (length id < 2 ^ 16) × (length value < 2 ^ 16)
elements_short true id value all = (all.0, all.1.1.0)
elements_short false id value all = (all.0, all.1.0)

pub parts_short : (e : Stated) → IsShortExtension e → (length e.id < 2 ^ 16) × (length e.value < 2 ^ 16)
parts_short e fits = elements_short e.critical e.id e.value fits.is.short

elements_are : (b : Bool) (id value : List ℕ) → (wrap 6 id ++ critical_bytes b) ++ wrap 4 value ≡ bytes_of (extension_elements b id value)
elements_are true id value =
    append_assoc (wrap 6 id) (wrap 1 (255 ∷ [])) (wrap 4 value)
    ∙ ap (λ (l : List ℕ). wrap 6 id ++ (wrap 1 (255 ∷ []) ++ l)) (sym (append-nil (wrap 4 value)))
elements_are false id value =
    ap (λ (l : List ℕ). l ++ wrap 4 value) (append-nil (wrap 6 id))
    ∙ ap (λ (l : List ℕ). wrap 6 id ++ l) (sym (append-nil (wrap 4 value)))

pub content_written : (e : Stated) (none first second bytes : List ℕ) → IsShortExtension e → none ≡ [] → first ≡ none ++ wrap 6 e.id
    → second ≡ first ++ critical_bytes e.critical → bytes ≡ second ++ wrap 4 e.value → IsExtension bytes e
content_written e none first second bytes fits is_none is_first is_second is = record {
  short = fits.is.short;
  written = is ∙ ap (λ (l : List ℕ). l ++ wrap 4 e.value) (is_second ∙ ap (λ (l : List ℕ). l ++ critical_bytes e.critical)
      (is_first ∙ ap (λ (l : List ℕ). l ++ wrap 6 e.id) is_none))
      ∙ elements_are e.critical e.id e.value;
}

pub extension_fits : (e : Stated) (bytes : List ℕ) → IsShortExtension e → IsExtension bytes e → length bytes < 2 ^ 16
extension_fits e bytes fits is =
    subst (λ (l : List ℕ). length l < 2 ^ 16) (fits.is.written ∙ sym is.written) fits.short

pub one_other : (old bytes new : List ℕ) (e : Stated) (b : Bool) → b ≡ bytes_eq e.id timestamps → b ≡ false → IsExtension bytes e
    → new ≡ old ++ wrap 48 bytes → new ≡ old ++ flat_map extension_bytes (filter is_other (e ∷ []))
one_other old bytes new e b is other content after =
    let kept : flat_map extension_bytes (filter is_other (e ∷ [])) ≡ extension_bytes e =
    ap (λ (x : Bool). flat_map extension_bytes (cond (not x) (e ∷ []) [])) (sym is ∙ other) ∙ append-nil (extension_bytes e) in
    after ∙ ap (λ (l : List ℕ). old ++ l) (ap (λ (l : List ℕ). wrap 48 l) content.written ∙ sym kept)

pub no_other : (old : List ℕ) (e : Stated) (b : Bool) → b ≡ bytes_eq e.id timestamps → b ≡ true
    → old ≡ old ++ flat_map extension_bytes (filter is_other (e ∷ []))
no_other old e b is same =
    let none : flat_map extension_bytes (filter is_other (e ∷ [])) ≡ [] =
    ap (λ (x : Bool). flat_map extension_bytes (cond (not x) (e ∷ []) [])) (sym is ∙ same) in
    sym (append-nil old) ∙ ap (λ (l : List ℕ). old ++ l) (sym none)

-- the certificate with a part that is no longer than its own
same_front_shorter : (front x y : List ℕ) → length x ≤ length y → length (front ++ x) ≤ length (front ++ y)
same_front_shorter front x y le = omega (arith, length-append front x, length-append front y)

ended_shorter : (x y : List ℕ) → length x ≤ length y → length (x ++ []) ≤ length (y ++ [])
ended_shorter x y le = rw (append-nil x, append-nil y) le

pub record IsContent (f : Facts) (extensions : List ℕ) : Type 0 where
  pub each : AreShort (signed_elements (with_extensions f extensions))
  pub all : length (bytes_of (signed_elements (with_extensions f extensions))) < 2 ^ 16

pub content_is : (bytes : List ℕ) (f : Facts) (part : List ℕ) → CertificateOf bytes f → length part ≤ length f.parts.extensions → IsContent f part
content_is bytes f part is le =
    let p = f.parts in
    let s = is.parts.inner.elements.short in
    let own : length f.parts.extensions < 2 ^ 16 = s.1.1.1.1.1.1.1.0 in
    let fits : length part < 2 ^ 16 = omega arith in
    let whole : length (bytes_of (signed_elements f.parts)) < 2 ^ 16 =
    subst (λ (l : List ℕ). length l < 2 ^ 16) is.parts.inner.elements.written is.parts.outer.short.0 in
    let last : length (wrap 163 part ++ []) ≤ length (wrap 163 f.parts.extensions ++ []) =
    ended_shorter (wrap 163 part) (wrap 163 f.parts.extensions) (wrap_grows 163 part f.parts.extensions le) in
    let seventh = same_front_shorter (wrap 48 p.key) (wrap 163 part ++ []) (wrap 163 p.extensions ++ []) last in
    let sixth = same_front_shorter (wrap 48 p.subject) _ _ seventh in
    let fifth = same_front_shorter (wrap 48 p.validity) _ _ sixth in
    let fourth = same_front_shorter (wrap 48 p.issuer) _ _ fifth in
    let third = same_front_shorter (wrap 48 p.algorithm) _ _ fourth in
    let second = same_front_shorter (wrap 2 p.serial) _ _ third in
    let first : length (bytes_of (signed_elements (with_extensions f part))) ≤ length (bytes_of (signed_elements f.parts)) =
    same_front_shorter (wrap 160 (2 ∷ 1 ∷ 2 ∷ [])) _ _ second in
    record {
      each = (s.0, (s.1.0, (s.1.1.0, (s.1.1.1.0, (s.1.1.1.1.0, (s.1.1.1.1.1.0, (s.1.1.1.1.1.1.0, (fits, tt))))))));
      all = omega arith;
    }

-- the part of a certificate without its timestamps is no longer than its own
pub bare_part : (content part : List ℕ) (extensions : List Stated) → AreExtensions content extensions
    → part ≡ extensions_part (filter is_other extensions) → length part ≤ length content
bare_part content part extensions are is =
    let own : length content ≡ length (extensions_part extensions) = ap length (part_is content extensions are).written in
    let less : length part ≡ length (extensions_part (filter is_other extensions)) = ap length is in
    omega (arith, part_no_longer extensions)

joined_eight : (x y z u v w p q : List ℕ)
    → ((((((x ++ y) ++ z) ++ u) ++ v) ++ w) ++ p) ++ q ≡ x ++ (y ++ (z ++ (u ++ (v ++ (w ++ (p ++ (q ++ [])))))))
joined_eight x y z u v w p q = simp (append_assoc, append-nil)

pub eight_written : (n a b c d e f g h x y z u v w p q : List ℕ) → n ≡ [] → a ≡ n ++ x → b ≡ a ++ y → c ≡ b ++ z → d ≡ c ++ u
    → e ≡ d ++ v → f ≡ e ++ w → g ≡ f ++ p → h ≡ g ++ q → h ≡ x ++ (y ++ (z ++ (u ++ (v ++ (w ++ (p ++ (q ++ [])))))))
eight_written n a b c d e f g h x y z u v w p q e0 e1 e2 e3 e4 e5 e6 e7 e8 =
    e8 ∙ ap (λ (l : List ℕ). l ++ q) (e7 ∙ ap (λ (l : List ℕ). l ++ p) (e6 ∙ ap (λ (l : List ℕ). l ++ w)
    (e5 ∙ ap (λ (l : List ℕ). l ++ v) (e4 ∙ ap (λ (l : List ℕ). l ++ u) (e3 ∙ ap (λ (l : List ℕ). l ++ z)
    (e2 ∙ ap (λ (l : List ℕ). l ++ y) (e1 ∙ ap (λ (l : List ℕ). l ++ x) e0)))))))
    ∙ joined_eight x y z u v w p q
