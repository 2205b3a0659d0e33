-- Maps from texts, beside the entries and the members that they are read from.
use Rattle.std.proofs.Common.{◌≡◌, ℕ, List, [], ◌∷◌, ◌++◌, ◌&&◌, ◌↔◌, length, Option, Some, None}
use Rattle.std.proofs.Common.{option_and_then, MatchOption, is_some, String, Global, Ordering, Less}
use Rattle.std.proofs.Common.{Equal, Greater, string_bytes, string_cmp, nat_cmp, is_eq, cond, Bool}
use Rattle.std.proofs.Common.{true, false, true≢false, bytes_eq, T, refl, sym, ap, subst, ◌∙◌}
use Rattle.std.specs.Cmp.Lexicographic.{slice_cmp}
use Rattle.std.specs.FinMap.{find, is_sorted, insert, get, entries, from_entries, from_sorted}
use Rattle.std.specs.FinMap.{get-from_entries, get-from_sorted, get-insert, get-empty}
use Rattle.std.specs.FinMap.{entries-from_sorted, same_entries_map, entries-insert, same_map, empty}
use Rattle.std.specs.FinMap.{empty_of_len, len, len-entries, len-empty, nat_cmp-IsAntisymmetric}
use Rattle.std.specs.FinMap.{slice_cmp-IsAntisymmetric}
use Rattle.std.specs.FinMap.Entries.{below_all, put as put_entry, by_order}
use Rattle.std.specs.List.{AllByRecursion}
use Rattle.std.specs.List.Sorted.{IsStrictlySortedBy}
use Rattle.std.specs.Map.{lookup, keys_of}
use Rattle.std.specs.Ordering.{match_ordering, is_lt, ordering_reverse}
use Rattle.std.specs.BTreeMap.{insert_entry, is_at}
use Rattle.std.proofs.lemmas.Cmp.{nat_list_cmp_total}
use Rattle.std.proofs.lemmas.List.{length-map}
use Rattle.std.proofs.lemmas.Map.Text.{is_eq-slice_cmp}
use Rattle.std.proofs.lemmas.Slice.Eq.{bytes_eq-Decides}
use Rattle.serde_json.specs.Data.{Data, null, Members, no_members, put, object}
use Rattle.serde_json.specs.Find.{as_null, as_object, get_member}
use Rattle.serde_json.specs.View.{view, members_view}
use Rattle.serde_json.proofs.Views.{Entry, put_last, get_member-put, get_member-put_other}
use Rattle.serde_json.proofs.Views.{member_here}
use Rattle.it_base.specs.Document.{present}
use Rattle.it_base.specs.Finds.{Finds}
use Rattle.it_base.specs.Table.{Named, named_entries, Stands, AreMembers, IsTable}

abbrev pub text_cmp : List ℕ → List ℕ → Ordering
text_cmp = slice_cmp nat_cmp

by_order-match_ordering : {A : Type 0} (o : Ordering) (a b c : A)
    → match_ordering o a b c ≡ by_order o a b c
by_order-match_ordering Less a b c = refl
by_order-match_ordering Equal a b c = refl
by_order-match_ordering Greater a b c = refl

both : (a b : Bool) → T a → T b → T (a && b)
both true b p q = q
both false b p q = p

module _ {X : Type 0} where
  named_entries-match_ordering : (o : Ordering) (a b c : List (String Global × X))
      → named_entries (match_ordering o a b c) ≡ match_ordering o (named_entries a)
      (named_entries b) (named_entries c)
  named_entries-match_ordering Less a b c = refl
  named_entries-match_ordering Equal a b c = refl
  named_entries-match_ordering Greater a b c = refl

  named_entries-insert_entry : (es : List (String Global × X)) (k : String Global) (v : X)
      → named_entries (insert_entry string_cmp es k v) ≡ put_entry text_cmp (string_bytes k) v
      (named_entries es)
  named_entries-insert_entry [] k v = refl
  named_entries-insert_entry (e ∷ es) k v =
      named_entries-match_ordering (string_cmp k e.0) _ _ _
      ∙ by_order-match_ordering (string_cmp k e.0) _ _ _
      ∙ ap (λ rest. by_order (string_cmp k e.0) ((string_bytes k, v) ∷ named_entries (e ∷ es))
      ((string_bytes e.0, v) ∷ named_entries es) ((string_bytes e.0, e.1) ∷ rest))
      (named_entries-insert_entry es k v)

  find-named_entries : (q : List ℕ) (es : List (String Global × X))
      → find text_cmp q (named_entries es) ≡ lookup (is_at (λ k. text_cmp q (string_bytes k))) es
  find-named_entries q [] = refl
  find-named_entries q (e ∷ es) = ap (cond (is_eq (text_cmp q (string_bytes e.0))) (Some e.1))
      (find-named_entries q es)

  pub get-named_entries : (q : List ℕ) (es : List (String Global × X))
      → get (from_entries {R = text_cmp} (named_entries es)) q ≡ lookup
      (is_at (λ k. text_cmp q (string_bytes k))) es
  get-named_entries q es = get-from_entries nat_list_cmp_total (named_entries es) q
      ∙ find-named_entries q es

  below_from_sorted : (k : String Global) (es : List (String Global × X))
      → AllByRecursion (λ y. string_cmp k y ≡ Less) (keys_of es)
      → T (below_all text_cmp (string_bytes k) (named_entries es))
  below_from_sorted k [] h = tt
  below_from_sorted k (e ∷ es) h = both _ _ (subst (λ o. T (is_lt o)) (sym h.0) tt)
      (below_from_sorted k es h.1)

  is_sorted-named_entries : (es : List (String Global × X)) → IsStrictlySortedBy string_cmp
      (keys_of es) → T (is_sorted text_cmp (named_entries es))
  unfolding IsStrictlySortedBy
  is_sorted-named_entries [] h = tt
  is_sorted-named_entries (e ∷ es) h = both _ _ (below_from_sorted e.0 es h.0)
      (is_sorted-named_entries es h.1)

  entries-from_entries : (es : List (List ℕ × X)) → T (is_sorted text_cmp es)
      → entries (from_entries {R = text_cmp} es) ≡ es
  entries-from_entries es h =
      ap entries (same_map nat_list_cmp_total (slice_cmp-IsAntisymmetric nat_cmp-IsAntisymmetric)
      (from_entries es) (from_sorted es) (λ q. get-from_entries nat_list_cmp_total es q
      ∙ sym (get-from_sorted text_cmp es q h))) ∙ entries-from_sorted text_cmp es h

  -- the entries of the map of some entries in order
  pub entries-named_entries : (es : List (String Global × X)) → IsStrictlySortedBy string_cmp
      (keys_of es) → entries (from_entries {R = text_cmp} (named_entries es)) ≡ named_entries es
  entries-named_entries es h = entries-from_entries (named_entries es)
      (is_sorted-named_entries es h)

  pub from_entries-insert : (old new : List (String Global × X)) (k : String Global) (v : X)
      → IsStrictlySortedBy string_cmp (keys_of old) → IsStrictlySortedBy string_cmp (keys_of new)
      → new ≡ insert_entry string_cmp old k v
      → from_entries {R = text_cmp} (named_entries new) ≡ insert (from_entries (named_entries old))
      (string_bytes k) v
  from_entries-insert old new k v was is e =
      let m : Named X = from_entries (named_entries old) in
      same_entries_map (from_entries {R = text_cmp} (named_entries new))
      (insert m (string_bytes k) v)
      (entries-named_entries new is ∙ ap named_entries e ∙ named_entries-insert_entry old k v
      ∙ ap (put_entry text_cmp (string_bytes k) v) (sym (entries-named_entries old was))
      ∙ sym (entries-insert nat_list_cmp_total m (string_bytes k) v))

  pub empty-named_entries : (es : List (String Global × X)) → IsStrictlySortedBy string_cmp
      (keys_of es) → (length es ≡ 0) ↔ (from_entries {R = text_cmp} (named_entries es) ≡ empty)
  empty-named_entries es h =
      let long : len (from_entries {R = text_cmp} (named_entries es)) ≡ length es =
      len-entries (from_entries {R = text_cmp} (named_entries es))
      ∙ ap length (entries-named_entries es h) ∙ length-map es _ in
      (λ e. empty_of_len _ (long ∙ e), λ e. sym long ∙ ap len e ∙ len-empty text_cmp X)

-- ---- members in their order

below_middle : (first : Entry) (es : List Entry) (e : Entry) (more : List Entry)
    → AllByRecursion (λ y. string_cmp first.0 y ≡ Less) (keys_of (es ++ e ∷ more))
    → string_cmp first.0 e.0 ≡ Less
below_middle first [] e more h = h.0
below_middle first (x ∷ es) e more h = below_middle first es e more h.1

above_middle : (first : Entry) (es : List Entry) (e : Entry) (more : List Entry)
    → AllByRecursion (λ y. string_cmp first.0 y ≡ Less) (keys_of (es ++ e ∷ more))
    → text_cmp (string_bytes e.0) (string_bytes first.0) ≡ Greater
above_middle first es e more h = nat_list_cmp_total.antisymm (string_bytes e.0)
    (string_bytes first.0) ∙ ap ordering_reverse (below_middle first es e more h)

-- a name stands in no member before its own
absent : (done : List Entry) (e : Entry) (more : List Entry) → IsStrictlySortedBy string_cmp
    (keys_of (done ++ e ∷ more)) → get_member (string_bytes e.0) (members_view done) ≡ None
unfolding IsStrictlySortedBy
absent [] e more h = refl
absent (first ∷ done) e more h = rw (above_middle first done e more h.0) (absent done e more h.1)

-- and its own is found
found_here : (done : List Entry) (e : Entry) (more : List Entry) → IsStrictlySortedBy string_cmp
    (keys_of (done ++ e ∷ more)) → get_member (string_bytes e.0) (members_view (done ++ e ∷ more))
    ≡ Some (view e.1)
unfolding IsStrictlySortedBy
found_here [] e more h = member_here (string_bytes e.0) e more refl
found_here (first ∷ done) e more h = rw (above_middle first done e more h.0)
    (found_here done e more h.1)

pub present_of : (d : Data) → is_some (as_null d) ≡ false → present d ≡ Some d
present_of null e = absurd (cc)
present_of d e = refl

pub missing_of : (d : Data) → is_some (as_null d) ≡ true → present d ≡ None
missing_of null e = refl
missing_of d e = absurd (cc)

-- ---- members, read one after another

module _ {X : Type 0} (P : Data → X → Type 0) where
  pub members_none : AreMembers P no_members empty
  members_none name = get-empty text_cmp name

  put_present : (ms : Members) (m : Named X) (k : List ℕ) (d : Data) (x : X) → AreMembers P ms m
      → present d ≡ Some d → P d x → AreMembers P (put k d ms) (insert m k x)
  put_present ms m k d x before here is name =
      elim (bytes_eq name k) as (λ b. bytes_eq name k ≡ b
      → Stands P (option_and_then present (get_member name (put k d ms)))
      (get (insert m k x) name)) [
        | true ↦ λ e.
            let same : name ≡ k = (bytes_eq-Decides name k).0 e in
            let at : get (insert m k x) k ≡ Some x = get-insert nat_list_cmp_total m k x k
            ∙ rw (is_eq-slice_cmp k k ∙ (bytes_eq-Decides k k).1 refl) refl in
            rw (same, get_member-put k d ms, here) (x, at, is)
        | false ↦ λ e.
            let other = λ (s : name ≡ k). absurd
            (true≢false (sym ((bytes_eq-Decides name k).1 s) ∙ e)) in
            let at : get (insert m k x) name ≡ get m name = get-insert nat_list_cmp_total m k x name
            ∙ rw (is_eq-slice_cmp name k ∙ e) refl in
            rw (get_member-put_other name k d ms other, at) (before name)
      ] refl

  put_missing : (ms : Members) (m : Named X) (k : List ℕ) (d : Data) → AreMembers P ms m
      → get_member k ms ≡ None → present d ≡ None → AreMembers P (put k d ms) m
  put_missing ms m k d before free missing name =
      elim (bytes_eq name k) as (λ b. bytes_eq name k ≡ b
      → Stands P (option_and_then present (get_member name (put k d ms))) (get m name)) [
        | true ↦ λ e.
            let same : name ≡ k = (bytes_eq-Decides name k).0 e in
            let nothing : get m k ≡ None =
            subst (λ o. Stands P (option_and_then present o) (get m k)) free (before k) in
            rw (same, get_member-put k d ms, missing) nothing
        | false ↦ λ e.
            let other = λ (s : name ≡ k). absurd
            (true≢false (sym ((bytes_eq-Decides name k).1 s) ∙ e)) in
            rw (get_member-put_other name k d ms other) (before name)
      ] refl

  -- one more member is read
  pub members_more : (done : List Entry) (e : Entry) (more : List Entry) (m : Named X) (x : X)
      → IsStrictlySortedBy string_cmp (keys_of (done ++ e ∷ more)) → is_some (as_null (view e.1))
      ≡ false
      → AreMembers P (members_view done) m → P (view e.1) x
      → AreMembers P (members_view (done ++ e ∷ [])) (insert m (string_bytes e.0) x)
  members_more done e more m x sorted here before is =
      subst (λ ms. AreMembers P ms (insert m (string_bytes e.0) x)) (put_last done e more sorted)
      (put_present (members_view done) m (string_bytes e.0) (view e.1) x before
      (present_of (view e.1) here) is)

  -- one more member is null
  pub members_skip : (done : List Entry) (e : Entry) (more : List Entry) (m : Named X)
      → IsStrictlySortedBy string_cmp (keys_of (done ++ e ∷ more)) → is_some (as_null (view e.1))
      ≡ true
      → AreMembers P (members_view done) m → AreMembers P (members_view (done ++ e ∷ [])) m
  members_skip done e more m sorted missing before =
      subst (λ ms. AreMembers P ms m) (put_last done e more sorted)
      (put_missing (members_view done) m (string_bytes e.0) (view e.1) before
      (absent done e more sorted) (missing_of (view e.1) missing))

  -- a member that is no value leaves no map
  pub no_members_of : (done : List Entry) (e : Entry) (more : List Entry)
      → IsStrictlySortedBy string_cmp (keys_of (done ++ e ∷ more)) → is_some (as_null (view e.1))
      ≡ false
      → ((x : X) → P (view e.1) x → ⊥) → (m : Named X)
      → AreMembers P (members_view (done ++ e ∷ more)) m → ⊥
  no_members_of done e more sorted here no_value m is =
      let found : option_and_then present
      (get_member (string_bytes e.0) (members_view (done ++ e ∷ more))) ≡ Some (view e.1) =
      ap (option_and_then present) (found_here done e more sorted)
      ∙ present_of (view e.1) here in
      let stands = subst (λ o. Stands P o (get m (string_bytes e.0))) found
      (is (string_bytes e.0)) in
      no_value stands.0 stands.2

  -- where each member is one value at most, members are one map at most
  stands_same : (same : (d : Data) (x y : X) → P d x → P d y → x ≡ y) (found : Option Data)
      (a b : Option X) → Stands P found a → Stands P found b → a ≡ b
  stands_same same None a b h k = h ∙ sym k
  stands_same same (Some d) a b h k = h.1 ∙ ap Some (same d h.0 k.0 h.2 k.2) ∙ sym k.1

  pub members_same : (same : (d : Data) (x y : X) → P d x → P d y → x ≡ y) (ms : Members)
      (m n : Named X) → AreMembers P ms m → AreMembers P ms n → m ≡ n
  members_same same ms m n h k =
      same_map nat_list_cmp_total (slice_cmp-IsAntisymmetric nat_cmp-IsAntisymmetric) m n
      (λ q. stands_same same (option_and_then present (get_member q ms)) (get m q) (get n q)
      (h q) (k q))

  pub table_same : (same : (d : Data) (x y : X) → P d x → P d y → x ≡ y) (d : Data) (m n : Named X)
      → IsTable P d m → IsTable P d n → m ≡ n
  table_same same (object ms) m n h k = members_same same ms m n h k
  table_same same d m n h k = absurd h

  -- what is found of the members is found of the object
  pub found_of_members : (d : Data) (ms : Members) (found : Option (Named X))
      → Some ms ≡ as_object d → Finds (AreMembers P ms) found → Finds (IsTable P d) found
  found_of_members d ms None e none =
      λ m is. none m (subst (λ o. MatchOption o ⊥ (λ ms. AreMembers P ms m)) (sym e) is)
  found_of_members d ms (Some m) e is = subst (λ o. MatchOption o ⊥ (λ ms. AreMembers P ms m)) e is
