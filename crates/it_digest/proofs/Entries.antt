-- The entries of a map under texts are what it has at its keys.
use Rattle.std.proofs.Common.{◌≡◌, ℕ, List, [], ◌∷◌, Some, Ordering, Less, Equal, Greater, Bool}
use Rattle.std.proofs.Common.{true, false, T, ◌&&◌, cond, is_eq, is_lt, nat_cmp, inl, inr, Contains}
use Rattle.std.proofs.Common.{refl, sym, ap, subst, ◌∙◌}
use Rattle.std.specs.Cmp.{tied_itself}
use Rattle.std.specs.Cmp.Lexicographic.{slice_cmp, nat_list_cmp_total}
use Rattle.std.specs.FinMap.{FinMap, entries, entries_sorted, get, get-entries, find, is_sorted}
use Rattle.std.specs.FinMap.{slice_cmp-IsAntisymmetric, nat_cmp-IsAntisymmetric}
use Rattle.std.specs.FinMap.Entries.{below_all}
use Rattle.std.specs.Ordering.{ordering_reverse}
use Rattle.std.proofs.lemmas.Option.{same_Some}
use Rattle.it_base.proofs.Members.{in_head, in_tail, in_cases, in_none}

abbrev order : List ℕ → List ℕ → Ordering
order = slice_cmp nat_cmp

both_of : (a b : Bool) → T (a && b) → T a × T b
both_of true b h = (tt, h)
both_of false b h = absurd h

less_of : (o : Ordering) → T (is_lt o) → o ≡ Less
less_of Less h = refl
less_of Equal h = absurd h
less_of Greater h = absurd h

module _ {X : Type 0} where
  -- a key that is below all of a list's is above none of them
  above_none : (x : List ℕ) (es : List (List ℕ × X)) (e : List ℕ × X) → T (below_all order x es)
      → Contains es e → order e.0 x ≡ Greater
  above_none x [] e h c = absurd (in_none e c)
  above_none x (f ∷ es) e h c =
      let parts = both_of (is_lt (order x f.0)) (below_all order x es) h in
      elim (in_cases f es e c) [
        | inl same ↦ subst (λ (g : List ℕ × X). order g.0 x ≡ Greater) same
            (nat_list_cmp_total.antisymm f.0 x
            ∙ ap ordering_reverse (less_of (order x f.0) parts.0))
        | inr later ↦ above_none x es e parts.1 later
      ]

  find_entry : (es : List (List ℕ × X)) → T (is_sorted order es) → (e : List ℕ × X) → Contains es e
      → find order e.0 es ≡ Some e.1
  find_entry [] sorted e c = absurd (in_none e c)
  find_entry (f ∷ es) sorted e c =
      let parts = both_of (below_all order f.0 es) (is_sorted order es) sorted in
      elim (in_cases f es e c) [
        | inl same ↦
            let tied : order e.0 f.0 ≡ Equal = ap (λ (g : List ℕ × X). order e.0 g.0) same
            ∙ tied_itself nat_list_cmp_total e.0 in
            ap (λ o. cond (is_eq o) (Some f.1) (find order e.0 es)) tied
            ∙ ap (λ (g : List ℕ × X). Some g.1) same
        | inr later ↦ ap (λ o. cond (is_eq o) (Some f.1) (find order e.0 es))
            (above_none f.0 es e parts.0 later) ∙ find_entry es parts.1 e later
      ]

  -- at an entry's key the map has its value
  pub entry_known : (m : FinMap order X) (e : List ℕ × X) → Contains (entries m) e
      → get m e.0 ≡ Some e.1
  entry_known m e c = get-entries m e.0 ∙ find_entry (entries m) (entries_sorted m) e c

  found_by : (q : List ℕ) (v : X) (f : List ℕ × X) (es : List (List ℕ × X)) (o : Ordering)
      → order q f.0 ≡ o → cond (is_eq o) (Some f.1) (find order q es) ≡ Some v
      → (find order q es ≡ Some v → Contains es (q, v)) → Contains (f ∷ es) (q, v)
  found_by q v f es Equal tied e later =
      let key : q ≡ f.0 = slice_cmp-IsAntisymmetric nat_cmp-IsAntisymmetric q f.0 tied in
      let value : f.1 ≡ v = same_Some f.1 v e in
      let pair : ◌≡◌ {A = List ℕ × X} f (q, v) = λ i. (sym key i, value i) in
      subst (Contains (f ∷ es)) pair (in_head f es)
  found_by q v f es Less tied e later = in_tail f es (q, v) (later e)
  found_by q v f es Greater tied e later = in_tail f es (q, v) (later e)

  found_entry : (q : List ℕ) (v : X) (es : List (List ℕ × X)) → find order q es ≡ Some v
      → Contains es (q, v)
  found_entry q v [] e = cc
  found_entry q v (f ∷ es) e = found_by q v f es (order q f.0) refl e (found_entry q v es)

  -- what the map has at a key is an entry
  pub known_entry : (m : FinMap order X) (q : List ℕ) (v : X) → get m q ≡ Some v
      → Contains (entries m) (q, v)
  known_entry m q v e = found_entry q v (entries m) (sym (get-entries m q) ∙ e)
