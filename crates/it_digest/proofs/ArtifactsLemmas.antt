-- A map under paths, beside its entries by the bytes of the paths.
use Rattle.std.proofs.Common.{◌≡◌, ℕ, List, [], ◌∷◌, ◌++◌, ◌&&◌, map, Option, Some, None, String}
use Rattle.std.proofs.Common.{Global, Ordering, Less, Greater, string_bytes, string_cmp, nat_cmp}
use Rattle.std.proofs.Common.{is_eq, cond, Bool, bytes_eq, refl, sym, ap, ◌∙◌}
use Rattle.std.specs.Bool.{Decides}
use Rattle.std.specs.Cmp.Lexicographic.{slice_cmp, pointwise}
use Rattle.std.specs.FinMap.{find, insert, entries, from_entries, from_entries_push}
use Rattle.std.specs.FinMap.{nat_cmp-IsAntisymmetric, slice_cmp-IsAntisymmetric}
use Rattle.std.specs.List.{AllByRecursion}
use Rattle.std.specs.List.Sorted.{IsStrictlySortedBy}
use Rattle.std.specs.Map.{keys_of}
use Rattle.std.specs.Option.{option_eq}
use Rattle.std.specs.Ordering.{ordering_reverse}
use Rattle.std.proofs.lemmas.Bool.Decides.{Decides-and}
use Rattle.std.proofs.lemmas.Cmp.{nat_list_cmp_total}
use Rattle.std.proofs.lemmas.List.{map-append}
use Rattle.std.proofs.lemmas.Slice.Eq.{bytes_eq-Decides, slice_eq-Decides}
use Rattle.it_base.proofs.TableLemmas.{entries-named_entries}
use Rattle.it_digest.specs.declared.compare.DigestSet.{DigestSet}
use Rattle.it_digest.specs.Artifacts.{path_entries}
use Rattle.it_digest.specs.Equal.{same_set, same_value}

abbrev pub path_cmp : List ℕ → List ℕ → Ordering
path_cmp = slice_cmp nat_cmp

abbrev pub Entry : Type 0
Entry = String Global × DigestSet

-- ---- the entries by the bytes of their paths

pub keys-path_entries : (es : List Entry) → map string_bytes (keys_of es) ≡ map
    (λ (e : List ℕ × DigestSet). e.0) (path_entries es)
keys-path_entries [] = refl
keys-path_entries (e ∷ es) = ap (λ ks. string_bytes e.0 ∷ ks) (keys-path_entries es)

-- ---- one entry after others in order

above_all : (k : String Global) (done : List Entry) (e : Entry) (left : List Entry)
    → AllByRecursion (λ y. string_cmp k y ≡ Less) (keys_of (done ++ e ∷ left))
    → string_cmp k e.0 ≡ Less
above_all k [] e left h = h.0
above_all k (d ∷ done) e left h = above_all k done e left h.1

pub find_before : (done : List Entry) (e : Entry) (left : List Entry)
    → IsStrictlySortedBy string_cmp
    (keys_of (done ++ e ∷ left)) → find path_cmp (string_bytes e.0) (path_entries done) ≡ None
unfolding IsStrictlySortedBy
find_before [] e left h = refl
find_before (d ∷ done) e left h =
    let above : path_cmp (string_bytes e.0) (string_bytes d.0) ≡ Greater =
    nat_list_cmp_total.antisymm (string_bytes e.0) (string_bytes d.0)
    ∙ ap ordering_reverse (above_all d.0 done e left h.0) in
    ap (λ o. cond (is_eq o) (Some d.1) (find path_cmp (string_bytes e.0) (path_entries done))) above
    ∙ find_before done e left h.1

pub from_entries-more : (done : List Entry) (e : Entry) (left : List Entry)
    → IsStrictlySortedBy string_cmp (keys_of (done ++ e ∷ left))
    → from_entries {R = path_cmp} (path_entries (done ++ e ∷ [])) ≡ insert
    (from_entries (path_entries done)) (string_bytes e.0) e.1
from_entries-more done e left h =
    ap (λ es. from_entries {R = path_cmp} es)
    (map-append (λ (x : Entry). (string_bytes x.0, x.1)) done (e ∷ []))
    ∙ from_entries_push nat_list_cmp_total (slice_cmp-IsAntisymmetric nat_cmp-IsAntisymmetric)
    (path_entries done) (string_bytes e.0) e.1 (find_before done e left h)

-- ---- equal maps

abbrev pub same_entry : (DigestSet → DigestSet → Bool) → List ℕ × DigestSet → List ℕ × DigestSet
    → Bool
same_entry same p q = bytes_eq p.0 q.0 && same p.1 q.1

pub same_entry-Decides : (same : DigestSet → DigestSet → Bool)
    → ((a b : DigestSet) → Decides (same a b) (a ≡ b)) → (p q : List ℕ × DigestSet)
    → Decides (same_entry same p q) (p ≡ q)
same_entry-Decides same decides p q =
    let keys : Decides (bytes_eq p.0 q.0) (p.0 ≡ q.0) = bytes_eq-Decides p.0 q.0 in
    let both_parts : Decides (same_entry same p q) ((p.0 ≡ q.0) × (p.1 ≡ q.1)) =
    Decides-and (bytes_eq p.0 q.0) (same p.1 q.1) keys (decides p.1 q.1) in (
      λ h. let e = both_parts.0 h in λ i. (e.0 i, e.1 i),
      λ e. both_parts.1 (ap (λ x. x.0) e, ap (λ x. x.1) e),
    )

pointwise-path_entries : (same : DigestSet → DigestSet → Bool) (es fs : List Entry)
    → pointwise (λ (p q : Entry). bytes_eq (string_bytes p.0) (string_bytes q.0) && same p.1 q.1) es
    fs ≡ pointwise (same_entry same) (path_entries es) (path_entries fs)
pointwise-path_entries same [] [] = refl
pointwise-path_entries same [] (f ∷ fs) = refl
pointwise-path_entries same (e ∷ es) [] = refl
pointwise-path_entries same (e ∷ es) (f ∷ fs) =
    ap (λ b. same_entry same (string_bytes e.0, e.1) (string_bytes f.0, f.1) && b)
    (pointwise-path_entries same es fs)

option_eq-Decides : {A : Type 0} (same : A → A → Bool) → ((a b : A) → Decides (same a b) (a ≡ b))
    → (x y : Option A) → Decides (option_eq same x y) (x ≡ y)
option_eq-Decides same decides None None = (λ h. refl, λ h. refl)
option_eq-Decides same decides None (Some y) = (λ h. cc h, λ h. cc h)
option_eq-Decides same decides (Some x) None = (λ h. cc h, λ h. cc h)
option_eq-Decides same decides (Some x) (Some y) =
    (λ h. ap Some ((decides x y).0 h), λ h. (decides x y).1 (cc h))

-- `==` on digest sets decides whether they are equal
pub digest_set_eq-Decides : (a b : DigestSet) → Decides (same_set a b) (a ≡ b)
digest_set_eq-Decides a b =
    let each = option_eq-Decides bytes_eq bytes_eq-Decides in
    let longer = Decides-and (same_value a.sha384 b.sha384) (same_value a.sha512 b.sha512)
    (each a.sha384 b.sha384) (each a.sha512 b.sha512) in
    let values = Decides-and (same_value a.sha256 b.sha256) (same_value a.sha384 b.sha384
    && same_value a.sha512 b.sha512) (each a.sha256 b.sha256) longer in (
      λ h. let e = values.0 h in λ i. record { sha256 = e.0 i; sha384 = e.1.0 i; sha512 = e.1.1 i },
      λ e. values.1 (
        ap (λ (d : DigestSet). d.sha256) e,
        (ap (λ (d : DigestSet). d.sha384) e, ap (λ (d : DigestSet). d.sha512) e),
      ),
    )

-- `==` on the entries in order says whether the maps are equal, where `==` on the digest sets
-- decides `≡`
pub same_maps : (same : DigestSet → DigestSet → Bool)
    → ((a b : DigestSet) → Decides (same a b) (a ≡ b)) → (es fs : List Entry) (r : Bool)
    → IsStrictlySortedBy string_cmp (keys_of es) → IsStrictlySortedBy string_cmp (keys_of fs)
    → r ≡ pointwise (λ (p q : Entry). bytes_eq (string_bytes p.0) (string_bytes q.0)
    && same p.1 q.1) es fs
    → Decides r (from_entries {R = path_cmp} (path_entries es) ≡ from_entries (path_entries fs))
same_maps same decides es fs r a b e =
    let lists : Decides r (path_entries es ≡ path_entries fs) =
    slice_eq-Decides (same_entry-Decides same decides) (path_entries es) (path_entries fs) r
    (e ∙ pointwise-path_entries same es fs) in (
      λ h. ap (λ xs. from_entries {R = path_cmp} xs) (lists.0 h),
      λ h. lists.1 (sym (entries-named_entries es a) ∙ ap entries h ∙ entries-named_entries fs b),
    )

-- ---- paths in order

AllByRecursion-string_bytes : (k : String Global) (ks : List (String Global))
    → AllByRecursion (λ y. string_cmp k y ≡ Less) ks
    → AllByRecursion (λ y. path_cmp (string_bytes k) y ≡ Less) (map string_bytes ks)
AllByRecursion-string_bytes k [] h = tt
AllByRecursion-string_bytes k (x ∷ xs) h = (h.0, AllByRecursion-string_bytes k xs h.1)

pub IsStrictlySortedBy-string_bytes : (ks : List (String Global)) → IsStrictlySortedBy string_cmp ks
    → IsStrictlySortedBy path_cmp (map string_bytes ks)
unfolding IsStrictlySortedBy
IsStrictlySortedBy-string_bytes [] h = tt
IsStrictlySortedBy-string_bytes (x ∷ xs) h =
    (AllByRecursion-string_bytes x xs h.0, IsStrictlySortedBy-string_bytes xs h.1)
