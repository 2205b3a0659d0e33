-- Sets of names that are lent, by their bytes.
use Rattle.std.proofs.Common.{◌≡◌, ◌||◌, ℕ, List, [], ◌∷◌, ◌++◌, Bool, true, false, Bor, Contains}
use Rattle.std.proofs.Common.{Ordering, Less, Equal, Greater, nat_cmp, is_eq, ◌↔◌, IsTrue, ◌<◌}
use Rattle.std.proofs.Common.{◌+◌, Some, length, take, get_or}
use Rattle.std.proofs.Common.{refl, sym, ap, subst, ◌∙◌}
use Rattle.std.specs.BTreeSet.{BTreeSet, insert_key}
use Rattle.std.specs.Cmp.Lexicographic.{slice_cmp}
use Rattle.std.specs.List.{slice_get}
use Rattle.std.specs.Option.{option_map}
use Rattle.std.specs.Ordering.{match_ordering}
use Rattle.std.specs.Str.{bytes_eq}
use Rattle.std.proofs.lemmas.Cmp.{nat_list_eq_equiv}
use Rattle.std.proofs.lemmas.List.{length-map, map-append, take_more}
use Rattle.std.proofs.lemmas.List.Folds.{list_any-append}
use Rattle.std.proofs.lemmas.Map.Lookups.{exact_bytes}
use Rattle.std.proofs.lemmas.Map.Text.{is_eq-slice_cmp}
use Rattle.std.proofs.lemmas.Map.Views.{Contains-from_any, list_any-from_Contains}
use Rattle.std.proofs.lemmas.Option.{same_Some, slice_get-map, slice_get_read, slice_get_within}
use Rattle.std.proofs.lemmas.Slice.Eq.{bytes_eq-Decides}
use Rattle.it_docs.specs.declared.policy.Expectation.{Expectation}
use Rattle.it_prov.specs.Ignored.{AreIgnored, is_among, is_one_of}
use Rattle.it_prov.specs.inside.Judged.{HasNames}

abbrev lent_cmp : Bor (List ℕ) → Bor (List ℕ) → Ordering
lent_cmp x y = slice_cmp nat_cmp x.now y.now

abbrev same : List ℕ → List ℕ → Bool
same p q = is_eq (slice_cmp nat_cmp p q)

or_swap : (a b c : Bool) → a || (b || c) ≡ b || (a || c)
or_swap true true c = refl
or_swap true false c = refl
or_swap false true c = refl
or_swap false false c = refl

or_same : (a c : Bool) → a || c ≡ a || (a || c)
or_same true c = refl
or_same false c = refl

insert_step : (p : List ℕ) (k x : Bor (List ℕ)) (xs : List (Bor (List ℕ))) (o : Ordering)
    → slice_cmp nat_cmp k.now x.now ≡ o → is_among (insert_key lent_cmp xs k) p ≡ same p k.now
    || is_among xs p
    → is_among (match_ordering o (k ∷ x ∷ xs) (x ∷ xs) (x ∷ insert_key lent_cmp xs k)) p
    ≡ same p k.now || (same p x.now || is_among xs p)
insert_step p k x xs Less e h = refl
insert_step p k x xs Equal e h =
    subst (λ q. same p x.now || is_among xs p ≡ same p q || (same p x.now || is_among xs p))
    (sym (exact_bytes k.now x.now e)) (or_same (same p x.now) (is_among xs p))
insert_step p k x xs Greater e h = ap (λ b. same p x.now || b) h
    ∙ or_swap (same p x.now) (same p k.now) (is_among xs p)

-- a set with one more name has it and those that it had
is_among-insert_key : (p : List ℕ) (k : Bor (List ℕ)) (ks : List (Bor (List ℕ)))
    → is_among (insert_key lent_cmp ks k) p ≡ same p k.now || is_among ks p
is_among-insert_key p k [] = refl
is_among-insert_key p k (x ∷ xs) = insert_step p k x xs (slice_cmp nat_cmp k.now x.now) refl
    (is_among-insert_key p k xs)

-- a name is one of a list where the test says so
pub is_one_of-Decides : (names : List (List ℕ)) (name : List ℕ)
    → IsTrue (is_one_of names name) ↔ Contains names name
is_one_of-Decides names name = (
  Contains-from_any (λ x y. (bytes_eq-Decides x y).0) name names,
  list_any-from_Contains nat_list_eq_equiv name names,
)

pub has_none : (set : BTreeSet (Bor (List ℕ))) → set.keys ≡ [] → HasNames [] set
has_none set empty = λ name. ap (λ ks. is_among ks name) empty

or_push : (a b : Bool) → a || b ≡ b || (a || false)
or_push true true = refl
or_push true false = refl
or_push false true = refl
or_push false false = refl

pub has_more : (names : List (List ℕ)) (set with : BTreeSet (Bor (List ℕ))) (k : Bor (List ℕ))
    → with.keys ≡ insert_key lent_cmp set.keys k → HasNames names set
    → HasNames (names ++ k.now ∷ []) with
has_more names set with k added has = λ name.
    ap (λ ks. is_among ks name) added ∙ is_among-insert_key name k set.keys
    ∙ rw (has name, is_eq-slice_cmp name k.now, list_any-append (bytes_eq name))
    (or_push (bytes_eq name k.now) (is_one_of names name))

abbrev has_name : List ℕ → BTreeSet (Bor (List ℕ)) → Bool
has_name name set = is_among set.keys name

abbrev lets : List ℕ → Expectation → Bool
lets name expectation = is_one_of expectation.ignore name

-- ---- the sets of each expectation
module _ (expectations : List Expectation) (sets : List (BTreeSet (Bor (List ℕ)))) where
  pub sets_as_many : AreIgnored expectations sets → length sets ≡ length expectations
  sets_as_many are = simp length-map at (ap length (are []))

  -- at the place of an expectation stands the set of the names that it lets be ignored
  pub set_at : (i : ℕ) (expectation : Expectation) (set : BTreeSet (Bor (List ℕ)))
      → AreIgnored expectations sets → slice_get expectations i ≡ Some expectation
      → set ≡ get_or sets i set → HasNames expectation.ignore set
  set_at i expectation set are there here = λ name.
      let below : i < length sets = rw (sets_as_many are)
      (slice_get_within expectations i expectation there) in
      let stands = slice_get_read sets (length sets) i set refl below here in
      same_Some (has_name name set) (lets name expectation)
      (sym (slice_get-map (has_name name) sets i ∙ ap (option_map (has_name name)) stands)
      ∙ ap (λ bs. slice_get bs i) (are name) ∙ slice_get-map (lets name) expectations i
      ∙ ap (option_map (lets name)) there)

  pub sets_more : (i : ℕ) (expectation : Expectation) (set : BTreeSet (Bor (List ℕ)))
      → i < length expectations → expectation ≡ get_or expectations i expectation
      → HasNames expectation.ignore set → AreIgnored (take i expectations) sets
      → AreIgnored (take (i + 1) expectations) (sets ++ set ∷ [])
  sets_more i expectation set below here has are = λ name.
      let more : take (i + 1) expectations ≡ take i expectations ++ expectation ∷ [] =
      take_more expectations i expectation below
      ∙ ap (λ e. take i expectations ++ e ∷ []) (sym here) in
      rw (more, map-append (has_name name), map-append (lets name), are name, has name) refl
