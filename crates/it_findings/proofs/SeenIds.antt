-- Ids that were seen, in a set of borrowed texts.
use Rattle.std.proofs.Common.{◌≡◌, ◌∙◌, ◌↔◌, ℕ, suc, ◌+◌, ◌<◌, ◌||◌, List, [], ◌∷◌, ◌++◌, length, map}
use Rattle.std.proofs.Common.{take, get_or, Bool, true, false, not, cond, IsTrue, Bor, Contains}
use Rattle.std.proofs.Common.{Ordering, is_eq, nat_cmp, refl, sym, ap}
use Rattle.std.specs.BTreeSet.{BTreeSet, IsOrdered, btree_set_len, contains}
use Rattle.std.specs.Cmp.Lexicographic.{on_texts, slice_cmp}
use Rattle.std.specs.List.{list_any}
use Rattle.std.specs.Ordering.{eq_by_cmp}
use Rattle.std.specs.Set.{distinct_count, is_member, unique_keys}
use Rattle.std.specs.Str.{bytes_eq}
use Rattle.std.proofs.lemmas.Bool.{false≢true}
use Rattle.std.proofs.lemmas.Cmp.{nat_list_eq_equiv}
use Rattle.std.proofs.lemmas.List.{take_more}
use Rattle.std.proofs.lemmas.List.Folds.{list_any-append}
use Rattle.std.proofs.lemmas.Map.Made.{is_member-Decides}
use Rattle.std.proofs.lemmas.Map.Text.{is_eq-slice_cmp}
use Rattle.std.proofs.lemmas.Map.Views.{btree_set_len-from_list}
use Rattle.std.proofs.lemmas.Slice.Eq.{bytes_eq-Decides}

abbrev pub text_cmp : Bor (List ℕ) → Bor (List ℕ) → Ordering
text_cmp x y = slice_cmp nat_cmp x.now y.now

-- the set has these ids
abbrev pub HasIds : List (List ℕ) → BTreeSet (Bor (List ℕ)) → Type 0
HasIds ids seen = (q : Bor (List ℕ)) → contains text_cmp seen q ≡ list_any (bytes_eq q.now) ids

or_either : (a b c : Bool) → a ≡ b → cond a true c ≡ (c || (b || false))
or_either true b true e = refl
or_either true b false e = rw (sym e) refl
or_either false b true e = refl
or_either false b false e = rw (sym e) refl

-- one more id is seen
pub seen_more : (ids : List (List ℕ)) (i : ℕ) (id : List ℕ) (k : Bor (List ℕ))
    (old new : BTreeSet (Bor (List ℕ))) → i < length ids → id ≡ get_or ids i id → k.now ≡ id
    → ((q : Bor (List ℕ)) → contains text_cmp new q
    ≡ cond (is_eq (text_cmp k q)) true (contains text_cmp old q))
    → HasIds (take i ids) old → HasIds (take (i + 1) ids) new
seen_more ids i id k old new below here is updates before = λ q.
    let cut : take (i + 1) ids ≡ take i ids ++ k.now ∷ [] =
    take_more ids i id below ∙ ap (λ x. take i ids ++ x ∷ []) (sym here ∙ sym is) in
    let same : is_eq (text_cmp k q) ≡ bytes_eq k.now q.now = is_eq-slice_cmp k.now q.now in
    updates q ∙ rw (cut, list_any-append (bytes_eq q.now), same, before q)
    (or_either (bytes_eq k.now q.now) (bytes_eq q.now k.now) _
    (nat_list_eq_equiv.symm k.now q.now))

not_new : (is_new has : Bool) → is_new ≡ not has → (¬ IsTrue is_new) ↔ IsTrue has
not_new is_new true e = (λ n. refl, λ h t. false≢true (sym e ∙ t))
not_new is_new false e = (λ n. absurd (n e), λ h t. false≢true h)

-- an id that is not new in the set stands among the ids
pub stood : (ids : List (List ℕ)) (id : List ℕ) (k : Bor (List ℕ)) (seen : BTreeSet (Bor (List ℕ)))
    (is_new : Bool) → k.now ≡ id → is_new ≡ not (contains text_cmp seen k) → HasIds ids seen
    → (¬ IsTrue is_new) ↔ Contains ids id
stood ids id k seen is_new is added has =
    let one = not_new is_new (is_member bytes_eq ids id)
    (added ∙ ap not (has k ∙ ap (λ x. list_any (bytes_eq x) ids) is)) in
    let two = is_member-Decides bytes_eq-Decides ids id in
    (λ n. two.0 (one.0 n), λ h. one.1 (two.1 h))

-- an id as it is lent
lend : List ℕ → Bor (List ℕ)
lend id = record { ref_ptr = (0, 0); now = id }

lent_any : (q : Bor (List ℕ)) (ids : List (List ℕ))
    → is_member (eq_by_cmp text_cmp) (map lend ids) q ≡ list_any (bytes_eq q.now) ids
unfolding lend
lent_any q [] = refl
lent_any q (id ∷ ids) = rw (is_eq-slice_cmp q.now id, lent_any q ids) refl

longer : {K L : Type 0} (b : Bool) (x : K) (y : L) (xs : List K) (ys : List L)
    → length xs ≡ length ys → length (cond b xs (x ∷ xs)) ≡ length (cond b ys (y ∷ ys))
longer true x y xs ys e = e
longer false x y xs ys e = ap (λ n. suc n) e

lent_count : (ids : List (List ℕ))
    → distinct_count (eq_by_cmp text_cmp) (map lend ids) ≡ distinct_count bytes_eq ids
unfolding lend
lent_count [] = refl
lent_count (id ∷ ids) =
    rw (lent_any (lend id) ids)
    (longer (is_member bytes_eq ids id) (lend id) id
    (unique_keys (eq_by_cmp text_cmp) (map lend ids)) (unique_keys bytes_eq ids) (lent_count ids))

-- the set of the ids has as many as there are different ones
pub counted : (ids : List (List ℕ)) (seen : BTreeSet (Bor (List ℕ))) → IsOrdered text_cmp seen
    → HasIds ids seen → btree_set_len seen ≡ distinct_count bytes_eq ids
counted ids seen ordered has =
    btree_set_len-from_list (on_texts (λ (k : Bor (List ℕ)). k.now)) (map lend ids) seen
    (λ q. has q ∙ sym (lent_any q ids), ordered)
    ∙ lent_count ids
