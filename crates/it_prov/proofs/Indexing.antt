-- The index of the subjects of Statements, as it is made.
use Rattle.std.proofs.Common.{◌≡◌, ◌<◌, ◌+◌, ◌==◌, ◌&&◌, ◌||◌, ℕ, zero, suc, List, [], ◌∷◌, ◌++◌}
use Rattle.std.proofs.Common.{length, Bool, true, false, Option, Some, None, refl, sym, ap, ◌∙◌}
use Rattle.std.proofs.Common.{Contains, arith, nat_cmp, bytes_eq, get_or, take}
use Rattle.std.specs.BTreeMap.{get, is_at}
use Rattle.std.specs.Cmp.Lexicographic.{slice_cmp}
use Rattle.std.specs.List.{list_any, slice_get}
use Rattle.std.specs.Option.{UnwrapsOrElse, option_map_or}
use Rattle.std.specs.declared.alloc.Global.{Global}
use Rattle.std.specs.declared.vec.Vec.{Vec}
use Rattle.std.proofs.Math.Bool.{and-false, or-false}
use Rattle.std.proofs.Math.Dec.{eqb-suc-zero, eqb-zero-suc}
use Rattle.std.proofs.lemmas.Bool.Decides.{Decides-eqb, same_from_decides}
use Rattle.std.proofs.lemmas.Cmp.{nat_list_eq_equiv}
use Rattle.std.proofs.lemmas.List.{length-take, take_more}
use Rattle.std.proofs.lemmas.List.Folds.{list_any-append, list_any-from_Any, list_any_more}
use Rattle.std.proofs.lemmas.Map.Text.{is_eq-slice_cmp}
use Rattle.std.proofs.lemmas.Slice.Eq.{bytes_eq-Decides}
use Rattle.it_digest.specs.DigestSet.{in_sha256, in_sha384, in_sha512, no_digests}
use Rattle.it_digest.specs.declared.compare.DigestSet.{DigestSet}
use Rattle.it_prov.specs.declared.attestations.Attestation.{Attestation}
use Rattle.it_prov.specs.declared.index.Entry.{Entry}
use Rattle.it_prov.specs.declared.index.Index.{Index}
use Rattle.it_prov.specs.Index.{Entries, IsIndex, entries_by, has_digest, is_of, lists, names}
use Rattle.it_prov.specs.inside.Indexed.{AreAdded, IsAdded, IsAddedUnder}

-- ---- one element more at the end
module _ {X : Type 0} (test : X → Bool) where
  any_with : (xs : List X) (x : X) → Contains xs x → (b : Bool) → test x ≡ b
      → list_any test xs ≡ (list_any test xs || b)
  any_with xs x c true e =
      let any = list_any-from_Any test xs (c.0, x, c.1, c.2, e) in rw any refl
  any_with xs x c false e = sym (or-false (list_any test xs))

  -- unless it is there already
  pub any_kept : (xs : List X) (x : X) → Contains xs x
      → list_any test xs ≡ (list_any test xs || test x)
  any_kept xs x c = any_with xs x c (test x) refl

  pub any_pushed : (xs : List X) (x : X)
      → list_any test (xs ++ x ∷ []) ≡ (list_any test xs || test x)
  any_pushed xs x = list_any-append test xs (x ∷ [])
      ∙ ap (λ b. list_any test xs || b) (or-false (test x))

-- ---- one entry under one digest
-- a test of what an entry of the map gives, where there was none of nothing
opened : (test : Entry → Bool) (found : Option (Vec Entry Global)) (given : Vec Entry Global)
    (Made : Vec Entry Global → Type 0) → ((v : Vec Entry Global) → Made v → v.items ≡ [])
    → UnwrapsOrElse found Made given
    → list_any test given.items ≡ option_map_or (λ v. list_any test v.items) found false
opened test None given Made none h = ap (list_any test) (none given h)
opened test (Some entries) given Made none h = ap (λ (v : Vec Entry Global). list_any test v.items) h

module _ (digest : List ℕ) (entry : Entry) (old new : Entries) (found : Option (Vec Entry Global))
    (before after : Vec Entry Global) (Made : Vec Entry Global → Type 0)
    (none : (v : Vec Entry Global) → Made v → v.items ≡ [])
    (is : found ≡ get (slice_cmp nat_cmp) old digest) (opens : UnwrapsOrElse found Made before)
    (puts : get (slice_cmp nat_cmp) new digest ≡ Some after)
    (keeps : (q : List ℕ) → is_at (slice_cmp nat_cmp digest) q ≡ false
    → get (slice_cmp nat_cmp) new q ≡ get (slice_cmp nat_cmp) old q)
    (ended : (test : Entry → Bool)
    → list_any test after.items ≡ (list_any test before.items || test entry)) where
  put : (d : List ℕ) (test : DigestSet → Bool) (place : ℕ) (b : Bool) → bytes_eq d digest ≡ b
      → lists new d test place ≡ (lists old d test place || (b && is_of test place entry))
  put d test place true e =
      let same = (bytes_eq-Decides d digest).0 e in
      let value = λ (o : Option (Vec Entry Global)). option_map_or
      (λ v. list_any (is_of test place) v.items) o false in
      let was : list_any (is_of test place) before.items ≡ lists old digest test place =
      opened (is_of test place) found before Made none opens ∙ ap value is in
      rw same (ap value puts ∙ ended (is_of test place)
      ∙ ap (λ b. b || is_of test place entry) was)
  put d test place false e =
      let value = λ (o : Option (Vec Entry Global)). option_map_or
      (λ v. list_any (is_of test place) v.items) o false in
      ap value (keeps d (is_eq-slice_cmp digest d ∙ nat_list_eq_equiv.symm digest d ∙ e))
      ∙ sym (or-false (lists old d test place))

  pub put_under : IsAddedUnder (Some digest) entry old new
  put_under = record { lists_more = λ d test place. put d test place (bytes_eq d digest) refl }

pub put_each : (entry : Entry) (old new : Index)
    → IsAddedUnder entry.subject.sha256 entry old.by_sha256 new.by_sha256
    → IsAddedUnder entry.subject.sha384 entry old.by_sha384 new.by_sha384
    → IsAddedUnder entry.subject.sha512 entry old.by_sha512 new.by_sha512
    → IsAdded entry old new
put_each entry old new first second third in_sha256 = first
put_each entry old new first second third in_sha384 = second
put_each entry old new first second third in_sha512 = third

-- ---- the subjects of one envelope
pub none_more : (a p : Bool) → a ≡ (a || (p && false))
none_more a p = sym (ap (λ b. a || b) (and-false p) ∙ or-false a)

one_more : (a p l h t : Bool)
    → ((a || (p && l)) || (h && (p && t))) ≡ (a || (p && (l || (h && t))))
one_more true p l h t = refl
one_more false true l h t = refl
one_more false false l true t = refl
one_more false false l false t = refl

pub none_added : (here : ℕ) (old : Index) → AreAdded here [] old old
none_added here old = λ algorithm digest test place.
    none_more (lists (entries_by algorithm old) digest test place) (here == place)

pub one_added : (subjects : List DigestSet) (here i : ℕ) → i < length subjects
    → (old now new : Index) → AreAdded here (take i subjects) old now
    → IsAdded (record { place = here; subject = get_or subjects i no_digests }) now new
    → AreAdded here (take (i + 1) subjects) old new
one_added subjects here i below old now new before added = λ algorithm digest test place.
    let named = λ (s : DigestSet). has_digest algorithm digest s && test s in
    let s = get_or subjects i no_digests in
    let was = lists (entries_by algorithm old) digest test place in
    (added algorithm).lists_more digest test place
    ∙ ap (λ b. b || (has_digest algorithm digest s && ((here == place) && test s)))
    (before algorithm digest test place)
    ∙ one_more was (here == place) (list_any named (take i subjects))
    (has_digest algorithm digest s) (test s)
    ∙ ap (λ b. was || ((here == place) && b)) (sym (list_any_more named subjects i no_digests below))

-- ---- one envelope after another
module _ {X : Type 0} (test : X → Bool) where
  abbrev passes_at : List X → ℕ → Bool
  passes_at xs p = option_map_or test (slice_get xs p) false

  same_next : (m n : ℕ) → (m == n) ≡ (suc m == suc n)
  same_next m n = same_from_decides (m == n) (suc m == suc n) (Decides-eqb m n) (
    λ e. let same = (Decides-eqb (suc m) (suc n)).0 e in omega (arith, same),
    λ same. (Decides-eqb (suc m) (suc n)).1 (ap suc same),
  )

  at_push : (xs : List X) (x : X) (p : ℕ)
      → passes_at (xs ++ x ∷ []) p ≡ (passes_at xs p || ((length xs == p) && test x))
  at_push [] x zero = refl
  at_push [] x (suc p) = ap (λ b. false || (b && test x)) (sym (eqb-zero-suc p))
  at_push (y ∷ ys) x zero = sym (or-false (test y))
      ∙ ap (λ b. test y || (b && test x)) (sym (eqb-suc-zero (length ys)))
  at_push (y ∷ ys) x (suc p) = at_push ys x p
      ∙ ap (λ b. passes_at ys p || (b && test x)) (same_next (length ys) p)

  at_more : (xs : List X) (i : ℕ) (x : X) → i < length xs → x ≡ get_or xs i x → (p : ℕ)
      → passes_at (take (i + 1) xs) p ≡ (passes_at (take i xs) p || ((i == p) && test x))
  at_more xs i x below here p =
      let more : take (i + 1) xs ≡ take i xs ++ x ∷ [] = take_more xs i x below
      ∙ ap (λ z. take i xs ++ z ∷ []) (sym here) in
      let long : length (take i xs) ≡ i = omega (arith, length-take i xs) in
      ap (λ zs. passes_at zs p) more ∙ at_push (take i xs) x p
      ∙ ap (λ n. passes_at (take i xs) p || ((n == p) && test x)) long

module _ (held : List (Option Attestation)) (i : ℕ) (below : i < length held)
    (old : Index) (before : IsIndex (take i held) old) where
  -- with what one more envelope holds
  pub indexed_more : (a : Attestation) → Some a ≡ get_or held i (Some a) → (new : Index)
      → AreAdded i a.statement.subjects old new → IsIndex (take (i + 1) held) new
  indexed_more a here new added = λ algorithm digest test place.
      let named = λ (s : DigestSet). has_digest algorithm digest s && test s in
      added algorithm digest test place
      ∙ ap (λ b. b || ((i == place) && list_any named a.statement.subjects))
      (before algorithm digest test place)
      ∙ sym (at_more (names named) held i (Some a) below here place)

  -- with one that holds nothing
  pub indexed_none : None ≡ get_or held i None → IsIndex (take (i + 1) held) old
  indexed_none here = λ algorithm digest test place.
      let named = λ (s : DigestSet). has_digest algorithm digest s && test s in
      before algorithm digest test place
      ∙ none_more (option_map_or (names named) (slice_get (take i held) place) false) (i == place)
      ∙ sym (at_more (names named) held i None below here place)
