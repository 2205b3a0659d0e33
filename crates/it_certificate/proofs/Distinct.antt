-- Identifiers that were seen, in a set.
use Rattle.std.proofs.Common.{◌≡◌, ℕ, zero, suc, ◌+◌, ◌<◌, ◌||◌, List, [], ◌∷◌, ◌++◌, length, map}
use Rattle.std.proofs.Common.{take, drop, get_or, Bool, true, false, true≢false, cond, not, Bor}
use Rattle.std.proofs.Common.{Ordering, is_eq, nat_cmp, refl, sym, ap, ◌∙◌, arith, subst}
use Rattle.std.specs.Cmp.Lexicographic.{slice_cmp}
use Rattle.std.specs.List.{IsDistinct, list_any, AllByRecursion}
use Rattle.std.specs.Str.{bytes_eq}
use Rattle.std.proofs.lemmas.List.{take_more, map-append}
use Rattle.std.proofs.lemmas.Cmp.{nat_list_eq_equiv}
use Rattle.std.proofs.lemmas.List.Folds.{list_any-append}
use Rattle.std.proofs.lemmas.Map.Keys.{IsDistinct-push}
use Rattle.std.proofs.lemmas.Map.Text.{is_eq-slice_cmp}
use Rattle.it_certificate.specs.declared.extension.Extension.{Extension}
use Rattle.it_certificate.specs.Extension.{stated_of}

abbrev pub id_cmp : Bor (List ℕ) → Bor (List ℕ) → Ordering
id_cmp x y = slice_cmp nat_cmp x.now y.now

abbrev pub ids : List Extension → List (List ℕ)
ids extensions = map (λ e. e.id) (map stated_of extensions)

ids_more : (xs : List Extension) (i : ℕ) (d : Extension) → i < length xs
    → ids (take (i + 1) xs) ≡ ids (take i xs) ++ (get_or xs i d).id.now ∷ []
ids_more xs i d below =
    ap ids (take_more xs i d below)
    ∙ ap (map (λ e. e.id)) (map-append stated_of (take i xs) (get_or xs i d ∷ []))
    ∙ map-append (λ e. e.id) (map stated_of (take i xs)) (stated_of (get_or xs i d) ∷ [])

ids_split : (xs : List Extension) (i : ℕ) (d : Extension) → i < length xs
    → ids xs ≡ ids (take i xs) ++ (get_or xs i d).id.now ∷ ids (drop (suc i) xs)
ids_split [] i d below = absurd (omega arith)
ids_split (x ∷ xs) zero d below = refl
ids_split (x ∷ xs) (suc i) d below = ap (λ (l : List (List ℕ)). x.id.now ∷ l) (ids_split xs i d (omega arith))

or_either : (a b c : Bool) → a ≡ b → cond a true c ≡ (c || (b || false))
or_either true b true e = refl
or_either true b false e = rw (sym e) refl
or_either false b true e = refl
or_either false b false e = rw (sym e) refl

-- one more identifier is seen
pub seen_more : (xs : List Extension) (i : ℕ) (d : Extension) (old new : Bor (List ℕ) → Bool) → i < length xs
    → ((q : Bor (List ℕ)) → old q ≡ list_any (bytes_eq q.now) (ids (take i xs)))
    → ((q : Bor (List ℕ)) → new q ≡ cond (is_eq (id_cmp (get_or xs i d).id q)) true (old q))
    → (q : Bor (List ℕ)) → new q ≡ list_any (bytes_eq q.now) (ids (take (i + 1) xs))
seen_more xs i d old new below before updates q =
    let n = (get_or xs i d).id in
    let cut = ids_more xs i d below in
    let same : is_eq (id_cmp n q) ≡ bytes_eq n.now q.now = is_eq-slice_cmp n.now q.now in
    updates q ∙ rw (cut, list_any-append (bytes_eq q.now), same, before q)
    (or_either (bytes_eq n.now q.now) (bytes_eq q.now n.now) _ (nat_list_eq_equiv.symm n.now q.now))

-- one more identifier differs from those before it
pub distinct_more : (xs : List Extension) (i : ℕ) (d : Extension) → i < length xs → IsDistinct bytes_eq (ids (take i xs))
    → list_any (bytes_eq (get_or xs i d).id.now) (ids (take i xs)) ≡ false
    → IsDistinct bytes_eq (ids (take (i + 1) xs))
distinct_more xs i d below before none = rw (ids_more xs i d below)
    (IsDistinct-push nat_list_eq_equiv (ids (take i xs)) (get_or xs i d).id.now before none)

differs_from : (x y : List ℕ) (front rest : List (List ℕ)) → AllByRecursion (λ z. bytes_eq y z ≡ false) (front ++ x ∷ rest)
    → bytes_eq y x ≡ false
differs_from x y [] rest all = all.0
differs_from x y (z ∷ front) rest all = differs_from x y front rest all.1

seen_or : (a b : Bool) → (a || b) ≡ true → a ≡ false → b ≡ true
seen_or true b e f = absurd (true≢false f)
seen_or false b e f = e

not_twice : (x : List ℕ) (front rest : List (List ℕ)) → IsDistinct bytes_eq (front ++ x ∷ rest)
    → list_any (bytes_eq x) front ≡ true → ⊥
unfolding IsDistinct
not_twice x [] rest all seen = true≢false (sym seen)
not_twice x (y ∷ front) rest all seen =
    let other : bytes_eq x y ≡ false = nat_list_eq_equiv.symm x y ∙ differs_from x y front rest all.0 in
    not_twice x front rest all.1 (seen_or (bytes_eq x y) (list_any (bytes_eq x) front) seen other)

-- an identifier that was seen repeats
pub repeats_here : (xs : List Extension) (i : ℕ) (d : Extension) → i < length xs
    → list_any (bytes_eq (get_or xs i d).id.now) (ids (take i xs)) ≡ true → IsDistinct bytes_eq (ids xs) → ⊥
repeats_here xs i d below seen all =
    not_twice (get_or xs i d).id.now (ids (take i xs)) (ids (drop (suc i) xs))
    (subst (IsDistinct bytes_eq) (ids_split xs i d below) all) seen

-- an identifier that is not new was seen, and one that is new was not
pub was_seen : (added seen : Bool) → added ≡ not seen → added ≡ false → seen ≡ true
was_seen added true e f = refl
was_seen added false e f = absurd (true≢false (sym e ∙ f))

pub was_new : (added seen : Bool) → added ≡ not seen → added ≡ true → seen ≡ false
was_new added true e f = absurd (true≢false (sym f ∙ e))
was_new added false e f = refl
