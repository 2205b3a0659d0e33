-- The names under which there are trees, and what stands under them.
use Rattle.std.proofs.Common.{◌≡◌, ◌⊎◌, ◌↔◌, ◌<◌, ℕ, List, [], ◌∷◌, length, Bool, true, false}
use Rattle.std.proofs.Common.{Option, Some, None, option_map, is_some, Ordering, Less, Equal}
use Rattle.std.proofs.Common.{Greater, nat_cmp, inl, inr, Contains, IsTrue, String, Global}
use Rattle.std.proofs.Common.{string_bytes, refl, sym, ap, subst, arith, ◌∙◌}
use Rattle.std.specs.Bool.{MatchBool}
use Rattle.std.specs.Cmp.{tied_itself}
use Rattle.std.specs.Cmp.Lexicographic.{slice_cmp, nat_list_cmp_total}
use Rattle.std.specs.FinMap.{slice_cmp-IsAntisymmetric, nat_cmp-IsAntisymmetric}
use Rattle.std.specs.List.{AllWithin, HoldsAt}
use Rattle.std.specs.Ordering.{match_ordering}
use Rattle.std.proofs.lemmas.Bool.{false≢true}
use Rattle.std.proofs.lemmas.List.Elements.{All-contains, All-from_all_within}
use Rattle.std.proofs.lemmas.Option.{same_Some, slice_get_cases}
use Rattle.it_base.proofs.Members.{in_head, in_tail, in_cases, in_none}
use Rattle.it_base.specs.Equal.{equal}
use Rattle.it_base.specs.Json.{Json, Fields, no_fields, field}
use Rattle.it_base.specs.JsonView.{fields_view}
use Rattle.it_base.specs.TreeOf.{field_at}
use Rattle.it_base.specs.declared.tree.Tree.{Tree}
use Rattle.it_prov.specs.inside.Judged.{IsMet, OfEachName}

-- ---- the names
abbrev pub names_in : Fields → List (List ℕ)
names_in no_fields = []
names_in (field l t fs) = l ∷ names_in fs

named_by : (name l : List ℕ) (t tree : Json) (fs : Fields) (o : Ordering) → slice_cmp nat_cmp name l
    ≡ o → match_ordering o (field_at name fs) (Some t) (field_at name fs) ≡ Some tree
    → (field_at name fs ≡ Some tree → Contains (names_in fs) name) → Contains (l ∷ names_in fs) name
named_by name l t tree fs Equal same e later =
    subst (Contains (l ∷ names_in fs))
    (sym (slice_cmp-IsAntisymmetric nat_cmp-IsAntisymmetric name l same)) (in_head l (names_in fs))
named_by name l t tree fs Less same e later = in_tail l (names_in fs) name (later e)
named_by name l t tree fs Greater same e later = in_tail l (names_in fs) name (later e)

-- the name of a tree is among the names
pub named : (name : List ℕ) (tree : Json) (fields : Fields) → field_at name fields ≡ Some tree
    → Contains (names_in fields) name
named name tree no_fields e = cc
named name tree (field l t fs) e = named_by name l t tree fs (slice_cmp nat_cmp name l) refl e
    (named name tree fs)

abbrev Has : Option Json → Type 0
Has found = (tree : Json) × (found ≡ Some tree)

tree_by : (name l : List ℕ) (t : Json) (rest : Option Json) (o : Ordering)
    → slice_cmp nat_cmp name l ≡ o → (l ≡ name) ⊎ Has rest
    → Has (match_ordering o rest (Some t) rest)
tree_by name l t rest Equal e h = (t, refl)
tree_by name l t rest Less e (inr found) = found
tree_by name l t rest Less e (inl same) = let tied = ap (slice_cmp nat_cmp name) same
    ∙ tied_itself nat_list_cmp_total name in absurd (cc)
tree_by name l t rest Greater e (inr found) = found
tree_by name l t rest Greater e (inl same) = let tied = ap (slice_cmp nat_cmp name) same
    ∙ tied_itself nat_list_cmp_total name in absurd (cc)

-- under each of the names there is a tree
tree_at : (name : List ℕ) (fields : Fields) → Contains (names_in fields) name
    → Has (field_at name fields)
tree_at name no_fields c = absurd (in_none name c)
tree_at name (field l t fs) c =
    tree_by name l t (field_at name fs) (slice_cmp nat_cmp name l) refl
    (elim (in_cases l (names_in fs) name c) [
      | inl same ↦ inl same
      | inr later ↦ inr (tree_at name fs later)
    ])

-- ---- the names of entries
abbrev pub Entry : Type 0
Entry = String Global × Tree

name_of : (entries : List Entry) (e : Entry) → Contains entries e
    → Contains (names_in (fields_view entries)) (string_bytes e.0)
name_of [] e c = absurd (in_none e c)
name_of (f ∷ entries) e c = elim (in_cases f entries e c) [
  | inl same ↦ subst (Contains (names_in (fields_view (f ∷ entries))))
      (ap (λ (g : Entry). string_bytes g.0) same)
      (in_head (string_bytes f.0) (names_in (fields_view entries)))
  | inr later ↦ in_tail (string_bytes f.0) (names_in (fields_view entries)) (string_bytes e.0)
      (name_of entries e later)
]

entry_of : (entries : List Entry) (name : List ℕ) → Contains (names_in (fields_view entries)) name
    → (e : Entry) × Contains entries e × (string_bytes e.0 ≡ name)
entry_of [] name c = absurd (in_none name c)
entry_of (f ∷ entries) name c =
    elim (in_cases (string_bytes f.0) (names_in (fields_view entries)) name c) [
      | inl same ↦ (f, in_head f entries, same)
      | inr later ↦ let e = entry_of entries name later in (e.0, in_tail f entries e.0 e.1, e.2)
    ]

-- what holds of the name of each entry holds of each name, and the other way round
pub of_each_name : (P : List ℕ → Type 0) (r : Bool) (entries : List Entry)
    → MatchBool r (AllWithin (λ (e : Entry). P (string_bytes e.0)) entries 0 (length entries))
    ((k : ℕ) × (k < length entries) × HoldsAt (λ (e : Entry). ¬ P (string_bytes e.0)) entries k)
    → IsTrue r ↔ OfEachName P (fields_view entries)
of_each_name P true entries all = (
  λ h name tree is.
      let e = entry_of entries name (named name tree (fields_view entries) is) in
      subst P e.2 (All-contains (λ (f : Entry). P (string_bytes f.0)) entries e.0
      (All-from_all_within (λ (f : Entry). P (string_bytes f.0)) entries all) e.1),
  λ all. refl,
)
of_each_name P false entries (k, below, fails) = (
  λ h. absurd (false≢true h),
  λ all. elim (slice_get_cases entries k).1 [
    | inl at ↦
        let there : Contains entries at.0 = (k, below, at.3) in
        let name = string_bytes (at.0).0 in
        let tree = tree_at name (fields_view entries) (name_of entries at.0 there) in
        absurd (fails at.0 (subst (λ (e : Entry). P (string_bytes e.0)) (sym at.3)
        (all name tree.0 tree.1)))
    | inr past ↦ absurd (omega (arith, past.0))
  ],
)

-- ---- what is expected under a name
-- where nothing is read, nothing was found
pub none_behind : {X Y : Type 0} (f : X → Y) (read : Option X) {found : Option Y}
    → option_map f read ≡ found → is_some read ≡ false → found ≡ None
none_behind f None e no_value = sym e
none_behind f (Some x) e no_value = cc

module _ (expected given : Fields) (name : List ℕ) (tree : Json)
    (is : Some tree ≡ field_at name expected) where
  -- a tree stands there
  pub met_by : (found : Json) (r : Bool) → Some found ≡ field_at name given → r ≡ equal found tree
      → IsTrue r ↔ IsMet expected given name
  met_by found r stands same = (
    λ h t e. record {
      given = found;
      stands = sym stands;
      is_equal = subst (λ u. IsTrue (equal found u)) (same_Some tree t (is ∙ e)) (sym same ∙ h);
    },
    λ m. let s = m tree (sym is) in same ∙ subst (λ u. IsTrue (equal u tree))
        (same_Some s.given found (sym s.stands ∙ sym stands)) s.is_equal,
  )

  -- none does
  pub not_met : None ≡ field_at name given → IsTrue false ↔ IsMet expected given name
  not_met none = (
    λ h. absurd (false≢true h),
    λ m. let s = m tree (sym is) in let some : ◌≡◌ {A = Option Json} None (Some s.given) = none
        ∙ s.stands in cc,
  )
