-- Maps that are written as JSON objects.
use Rattle.std.proofs.Common.{◌≡◌, ℕ, ◌≤◌, ◌&&◌, List, [], ◌∷◌, ◌++◌, Bool, true, false, Option, Some}
use Rattle.std.proofs.Common.{None, option_map, option_and_then, Ordering, Less, Equal, Greater, T}
use Rattle.std.proofs.Common.{is_eq, cond, refl, ap, subst, ◌∙◌, arith}
use Rattle.std.specs.FinMap.{entries, find, get-entries, is_sorted}
use Rattle.std.specs.FinMap.Entries.{below_all}
use Rattle.std.specs.List.{AllByRecursion}
use Rattle.std.specs.Ordering.{match_ordering, ordering_reverse, is_lt}
use Rattle.std.proofs.lemmas.Cmp.{nat_list_cmp_total}
use Rattle.serde_json.specs.Data.{Data, member, members_depth, depth, put}
use Rattle.serde_json.specs.Find.{get_member}
use Rattle.serde_json.specs.Written.{has_float, members_have_float}
use Rattle.it_base.specs.Document.{present}
use Rattle.it_base.specs.Table.{IsTable, Named, Stands}
use Rattle.it_base.proofs.TableLemmas.{text_cmp}
use Rattle.it_making.specs.ArtifactDocuments.{entry_members, table_document}

abbrev pub Entry : Type 0 → Type 0
Entry X = List ℕ × X

left : (a b : Bool) → T (a && b) → T a
left true b h = tt
left false b h = absurd h

right : (a b : Bool) → T (a && b) → T b
right true b h = h
right false b h = absurd h

less : (o : Ordering) → T (is_lt o) → o ≡ Less
less Less h = refl
less Equal h = absurd h
less Greater h = absurd h

module _ {X : Type 0} where
  below_middle : (name : List ℕ) (es : List (Entry X)) (e : Entry X) (more : List (Entry X))
      → T (below_all text_cmp name (es ++ e ∷ more)) → text_cmp e.0 name ≡ Greater
  below_middle name [] e more h =
      nat_list_cmp_total.antisymm e.0 name
      ∙ ap ordering_reverse (less (text_cmp name e.0) (left _ _ h))
  below_middle name (x ∷ es) e more h = below_middle name es e more (right _ _ h)

  -- an entry that is above those before it goes last
  pub put_entry_last : (f : X → Data) (done : List (Entry X)) (e : Entry X)
      (more : List (Entry X)) → T (is_sorted text_cmp (done ++ e ∷ more))
      → put e.0 (f e.1) (entry_members f done) ≡ entry_members f (done ++ e ∷ [])
  put_entry_last f [] e more h = refl
  put_entry_last f (x ∷ done) e more h =
      rw (below_middle x.0 done e more (left _ _ h))
      (ap (member x.0 (f x.1)) (put_entry_last f done e more (right _ _ h)))

  found_or : (f : X → Data) (o : Ordering) (x : X) (rest : Option X) (d : Option Data)
      → d ≡ option_map f rest
      → match_ordering o d (Some (f x)) d ≡ option_map f (cond (is_eq o) (Some x) rest)
  found_or f Less x rest d e = e
  found_or f Equal x rest d e = refl
  found_or f Greater x rest d e = e

  -- the member of a name is the document of the entry's value
  get_member-entry_members : (f : X → Data) (name : List ℕ) (es : List (Entry X))
      → get_member name (entry_members f es) ≡ option_map f (find text_cmp name es)
  get_member-entry_members f name [] = refl
  get_member-entry_members f name (e ∷ es) =
      found_or f (text_cmp name e.0) e.1 _ _ (get_member-entry_members f name es)

  found_tied : (Q : X → Type 0) (b : Bool) (y : X) (rest : Option X) (x : X)
      → cond b (Some y) rest ≡ Some x → Q y → (rest ≡ Some x → Q x) → Q x
  found_tied Q true y rest x e here later = subst Q (cc) here
  found_tied Q false y rest x e here later = later e

  -- what holds of each entry's value holds of the one that is found
  found_holds : (Q : X → Type 0) (name : List ℕ) (es : List (Entry X)) (x : X)
      → AllByRecursion (λ e. Q e.1) es → find text_cmp name es ≡ Some x → Q x
  found_holds Q name [] x all e = absurd (cc)
  found_holds Q name (y ∷ es) x all e =
      found_tied Q (is_eq (text_cmp name y.0)) y.1 (find text_cmp name es) x e all.0
      (found_holds Q name es x all.1)

  module _ (P : Data → X → Type 0) (f : X → Data) (there : (x : X) → present (f x) ≡ Some (f x)) where
    stands_written : (found : Option X) → ((x : X) → found ≡ Some x → P (f x) x)
        → Stands P (option_and_then present (option_map f found)) found
    stands_written None reads = refl
    stands_written (Some x) reads = rw (there x) (x, refl, reads x refl)

    -- where each value reads back, so does the map
    pub table_reads_back : (m : Named X) → AllByRecursion (λ e. P (f e.1) e.1) (entries m)
        → IsTable P (table_document f m) m
    table_reads_back m all name =
        rw (get-entries m name, get_member-entry_members f name (entries m))
        (stands_written (find text_cmp name (entries m))
        (λ x e. found_holds (λ x. P (f x) x) name (entries m) x all e))

  -- one more entry
  pub all_more : (Q : Entry X → Type 0) (es : List (Entry X)) (e : Entry X)
      → AllByRecursion Q es → Q e → AllByRecursion Q (es ++ e ∷ [])
  all_more Q [] e all here = (here, tt)
  all_more Q (x ∷ es) e all here = (all.0, all_more Q es e all.1 here)

  -- no value has a float
  pub no_float_in_entries : (f : X → Data) → ((x : X) → has_float (f x) ≡ false)
      → (es : List (Entry X)) → members_have_float (entry_members f es) ≡ false
  no_float_in_entries f none [] = refl
  no_float_in_entries f none (e ∷ es) = rw (none e.1) (no_float_in_entries f none es)

  -- no value nests deeper than n
  pub shallow_entries : (f : X → Data) (n : ℕ) → ((x : X) → depth (f x) ≤ n)
      → (es : List (Entry X)) → members_depth (entry_members f es) ≤ n
  shallow_entries f n shallow [] = omega arith
  shallow_entries f n shallow (e ∷ es) =
      omega (arith, shallow e.1, shallow_entries f n shallow es)
