-- Names of members that were seen, from the last one on, in a set of borrowed texts.
use Rattle.std.proofs.Common.{◌≡◌, ◌∙◌, ℕ, ◌+◌, ◌<◌, ◌||◌, List, [], ◌∷◌, ◌++◌, length, drop, get_or, zero, suc}
use Rattle.std.proofs.Common.{subst, arith, Bool, true, false, not, cond, reverse, Bor, Ordering, is_eq, nat_cmp, refl, sym, ap}
use Rattle.std.specs.BTreeSet.{BTreeSet, contains}
use Rattle.std.specs.Cmp.Lexicographic.{slice_cmp}
use Rattle.std.specs.List.{list_any}
use Rattle.std.specs.Str.{bytes_eq}
use Rattle.std.proofs.lemmas.Cmp.{nat_list_eq_equiv}
use Rattle.std.proofs.lemmas.List.{drop_more, reverse-append}
use Rattle.std.proofs.lemmas.Map.Text.{is_eq-slice_cmp}
use Rattle.json.specs.Strict.{keys}
use Rattle.json.specs.Value.{members_view}
use Rattle.json.specs.declared.value.Value.{Value}
use Rattle.it_repeats.specs.Again.{again_in, is_among}

abbrev pub Entry : Type 0 → Type 0
Entry A = Bor (List ℕ) × Value A

-- the names of members
abbrev pub names : {A : Type 0} → List (Entry A) → List (List ℕ)
names members = keys (members_view members)

abbrev pub text_cmp : Bor (List ℕ) → Bor (List ℕ) → Ordering
text_cmp x y = slice_cmp nat_cmp x.now y.now

-- the set has these names
abbrev pub HasNames : List (List ℕ) → BTreeSet (Bor (List ℕ)) → Type 0
HasNames seen set = (q : Bor (List ℕ)) → contains text_cmp set q ≡ list_any (bytes_eq q.now) seen

or_first : (a b c : Bool) → a ≡ b → cond a true c ≡ (b || c)
or_first true b c e = rw (sym e) refl
or_first false b c e = rw (sym e) refl

-- one more name is seen, which stands before the others
pub seen_more : (seen : List (List ℕ)) (k : Bor (List ℕ)) (old new : BTreeSet (Bor (List ℕ)))
    → ((q : Bor (List ℕ)) → contains text_cmp new q
    ≡ cond (is_eq (text_cmp k q)) true (contains text_cmp old q))
    → HasNames seen old → HasNames (k.now ∷ seen) new
seen_more seen k old new updates before = λ q.
    let same : is_eq (text_cmp k q) ≡ bytes_eq k.now q.now = is_eq-slice_cmp k.now q.now in
    updates q ∙ rw (same, before q)
    (or_first (bytes_eq k.now q.now) (bytes_eq q.now k.now) _
    (nat_list_eq_equiv.symm k.now q.now))

-- whether it comes again is told of one more name, the first
pub told_more : (seen : List (List ℕ)) (k : Bor (List ℕ)) (set : BTreeSet (Bor (List ℕ)))
    (is_new : Bool) (again : List Bool) → HasNames seen set
    → is_new ≡ not (contains text_cmp set k) → reverse again ≡ again_in seen
    → reverse (again ++ not is_new ∷ []) ≡ again_in (k.now ∷ seen)
told_more seen k set is_new again has added told =
    reverse-append again (not is_new ∷ []) ∙ rw (told, added, has k) (twice (is_among seen k.now) _)
  where
    twice : (b : Bool) (rest : List Bool) → not (not b) ∷ rest ≡ b ∷ rest
    twice true rest = refl
    twice false rest = refl

-- the names from a place on
pub names_from : {A : Type 0} (members : List (Entry A)) (i : ℕ) (m : Entry A) → i < length members
    → m ≡ get_or members i m
    → names (drop i members) ≡ m.0.now ∷ names (drop (i + 1) members)
names_from members i m below here =
    ap names (drop_more members i m below ∙ ap (λ x. x ∷ drop (i + 1) members) (sym here))

-- whether the member at a place comes again
pub again_at : {A : Type 0} (members : List (Entry A)) (i : ℕ) (m : Entry A) (b : Bool)
    → i < length members → m ≡ get_or members i m
    → get_or (again_in (names members)) i b ≡ is_among (names (drop (i + 1) members)) m.0.now
again_at [] i m b below here = absurd (omega (arith, below))
again_at (x ∷ members) zero m b below here =
    ap (λ (y : Entry _). is_among (names members) y.0.now) (sym here)
again_at (x ∷ members) (suc i) m b below here =
    let next : suc (i + 1) ≡ suc i + 1 = omega arith in
    subst
    (λ n. get_or (again_in (names members)) i b ≡ is_among (names (drop n (x ∷ members))) m.0.now)
    next (again_at members i m b (omega (arith, below)) here)

pub length-again_in : {A : Type 0} (members : List (Entry A))
    → length (again_in (names members)) ≡ length members
length-again_in [] = refl
length-again_in (x ∷ members) = ap (λ n. suc n) (length-again_in members)
