-- Entries in the order of their names, and what is found among them.
use Rattle.std.proofs.Common.{◌≡◌, ℕ, List, [], ◌∷◌, ◌++◌, Bool, true, false, cond, Option, Some}
use Rattle.std.proofs.Common.{None, option_map, option_and_then, is_eq, string_bytes, string_cmp}
use Rattle.std.proofs.Common.{Less, Vec, Bor, bytes_eq, refl, sym, ap, subst}
use Rattle.std.proofs.Common.{◌∙◌, rules}
use Rattle.std.specs.Cmp.Lexicographic.{slice_cmp}
use Rattle.std.specs.declared.alloc.Global.{Global}
use Rattle.std.specs.BTreeMap.{is_at}
use Rattle.std.specs.FinMap.{empty, get, get-empty, get-insert, insert}
use Rattle.std.specs.List.{AllByRecursion}
use Rattle.std.specs.List.Sorted.{IsStrictlySortedBy}
use Rattle.std.specs.Map.{keys_of, lookup}
use Rattle.std.specs.Ordering.{nat_cmp, ordering_reverse}
use Rattle.std.proofs.lemmas.Cmp.{nat_list_cmp_total}
use Rattle.std.proofs.lemmas.Map.Text.{is_eq-slice_cmp}
use Rattle.std.proofs.lemmas.Slice.Eq.{bytes_eq-Decides}
use Rattle.json.specs.Value.{members_view}
use Rattle.json.specs.declared.value.Value.{Value, Object, the_lemmas}
use Rattle.serde_json.specs.Data.{Data, Members, no_members, object}
use Rattle.serde_json.specs.Find.{as_object, get_member}
use Rattle.it_base.specs.Document.{present}
use Rattle.it_base.specs.Finds.{Finds}
use Rattle.it_base.specs.Table.{AreMembers, IsTable, Named, Stands}
use Rattle.it_base.proofs.TableLemmas.{found_of_members, text_cmp}
use Rattle.it_borrowed.specs.Tree.{as_data, data_of_members}
use Rattle.it_borrowed.specs.inside.Last.{Entry, found_at, value_at}

below_middle : (first : Entry) (es : List Entry) (e : Entry) (more : List Entry)
    → AllByRecursion (λ y. string_cmp first.0 y ≡ Less) (keys_of (es ++ e ∷ more))
    → string_cmp first.0 e.0 ≡ Less
below_middle first [] e more h = h.0
below_middle first (x ∷ es) e more h = below_middle first es e more h.1

-- past an entry with another name
past : (name : List ℕ) (first : Entry) (es : List Entry)
    → bytes_eq name (string_bytes first.0) ≡ false → found_at (first ∷ es) name ≡ found_at es name
past name first es other = ap (λ b. option_map (λ v. as_data v.now)
    (cond b (Some first.1) (lookup (is_at (λ k. slice_cmp nat_cmp name (string_bytes k))) es)))
    (is_eq-slice_cmp name (string_bytes first.0) ∙ other)

-- at an entry with that name
pub found_first : (first : Entry) (es : List Entry)
    → found_at (first ∷ es) (string_bytes first.0) ≡ Some (as_data first.1.now)
found_first first es =
    let name = string_bytes first.0 in
    ap (λ b. option_map (λ v. as_data v.now)
    (cond b (Some first.1) (lookup (is_at (λ k. slice_cmp nat_cmp name (string_bytes k))) es)))
    (is_eq-slice_cmp name name ∙ (bytes_eq-Decides name name).1 refl)

-- a name that is above those before it is none of them
above_first : (done : List Entry) (first e : Entry) (more : List Entry)
    → AllByRecursion (λ y. string_cmp first.0 y ≡ Less) (keys_of (done ++ e ∷ more))
    → bytes_eq (string_bytes e.0) (string_bytes first.0) ≡ false
above_first done first e more h =
    sym (is_eq-slice_cmp (string_bytes e.0) (string_bytes first.0))
    ∙ ap is_eq (nat_list_cmp_total.antisymm (string_bytes e.0) (string_bytes first.0)
    ∙ ap ordering_reverse (below_middle first done e more h))

pub found_new : (done : List Entry) (e : Entry) (more : List Entry)
    → IsStrictlySortedBy string_cmp (keys_of (done ++ e ∷ more))
    → found_at done (string_bytes e.0) ≡ None
unfolding IsStrictlySortedBy
found_new [] e more h = refl
found_new (first ∷ done) e more h =
    past (string_bytes e.0) first done (above_first done first e more h.0)
    ∙ found_new done e more h.1

pub found_here : (done : List Entry) (e : Entry) (more : List Entry)
    → IsStrictlySortedBy string_cmp (keys_of (done ++ e ∷ more))
    → found_at (done ++ e ∷ more) (string_bytes e.0) ≡ Some (as_data e.1.now)
unfolding IsStrictlySortedBy
found_here [] e more h = found_first e more
found_here (first ∷ done) e more h =
    past (string_bytes e.0) first (done ++ e ∷ more) (above_first done first e more h.0)
    ∙ found_here done e more h.1

-- an entry whose name is above those before it is found behind them
pub found_last : (done : List Entry) (e : Entry) (more : List Entry)
    → IsStrictlySortedBy string_cmp (keys_of (done ++ e ∷ more))
    → found_at (done ++ e ∷ []) (string_bytes e.0) ≡ Some (as_data e.1.now)
unfolding IsStrictlySortedBy
found_last [] e more h = found_first e []
found_last (first ∷ done) e more h =
    past (string_bytes e.0) first (done ++ e ∷ []) (above_first done first e more h.0)
    ∙ found_last done e more h.1

found_map : (b : Bool) (e : Entry) (o : Option _)
    → option_map (λ v. as_data v.now) (cond b (Some e.1) o)
    ≡ cond b (Some (as_data e.1.now)) (option_map (λ v. as_data v.now) o)
found_map true e o = refl
found_map false e o = refl

-- the other names find what they found
pub found_other : (done : List Entry) (e : Entry) (name : List ℕ)
    → bytes_eq name (string_bytes e.0) ≡ false
    → found_at (done ++ e ∷ []) name ≡ found_at done name
found_other [] e name other = past name e [] other
found_other (first ∷ done) e name other =
    let b = is_eq (slice_cmp nat_cmp name (string_bytes first.0)) in
    found_map b first _
    ∙ ap (cond b (Some (as_data first.1.now))) (found_other done e name other)
    ∙ sym (found_map b first _)

module _ {X : Type 0} (P : Data → X → Type 0) where
  abbrev pub StandAt : List Entry → Named X → Type 0
  StandAt es m = (name : List ℕ) → Stands P (value_at es name) (get m name)

  pub stand_none : StandAt [] empty
  stand_none name = get-empty text_cmp name

  -- one more member is read
  pub stand_more : (done : List Entry) (e : Entry) (more : List Entry) (m : Named X) (x : X)
      → IsStrictlySortedBy string_cmp (keys_of (done ++ e ∷ more))
      → present (as_data e.1.now) ≡ Some (as_data e.1.now) → StandAt done m → P (as_data e.1.now) x
      → StandAt (done ++ e ∷ []) (insert m (string_bytes e.0) x)
  stand_more done e more m x sorted there before is name =
      let k = string_bytes e.0 in
      let at : (b : Bool) → bytes_eq name k ≡ b
      → get (insert m k x) name ≡ cond b (Some x) (get m name) =
      λ b h. get-insert nat_list_cmp_total m k x name
      ∙ ap (λ b. cond b (Some x) (get m name)) (is_eq-slice_cmp name k ∙ h) in
      elim (bytes_eq name k) as (λ b. bytes_eq name k ≡ b
      → Stands P (value_at (done ++ e ∷ []) name) (get (insert m k x) name)) [
        | true ↦ λ h.
            let same : name ≡ k = (bytes_eq-Decides name k).0 h in
            let found : value_at (done ++ e ∷ []) name ≡ Some (as_data e.1.now) =
            ap (value_at (done ++ e ∷ [])) same
            ∙ ap (option_and_then present) (found_last done e more sorted) ∙ there in
            rw (found, at true h) (x, refl, is)
        | false ↦ λ h.
            let found : value_at (done ++ e ∷ []) name ≡ value_at done name =
            ap (option_and_then present) (found_other done e name h) in
            rw (found, at false h) (before name)
      ] refl

  -- one more member is null
  pub stand_skip : (done : List Entry) (e : Entry) (more : List Entry) (m : Named X)
      → IsStrictlySortedBy string_cmp (keys_of (done ++ e ∷ more))
      → present (as_data e.1.now) ≡ None → StandAt done m → StandAt (done ++ e ∷ []) m
  stand_skip done e more m sorted missing before name =
      let k = string_bytes e.0 in
      elim (bytes_eq name k) as (λ b. bytes_eq name k ≡ b
      → Stands P (value_at (done ++ e ∷ []) name) (get m name)) [
        | true ↦ λ h.
            let same : name ≡ k = (bytes_eq-Decides name k).0 h in
            let found : value_at (done ++ e ∷ []) name ≡ None =
            ap (value_at (done ++ e ∷ [])) same
            ∙ ap (option_and_then present) (found_last done e more sorted) ∙ missing in
            let none : get m k ≡ None = subst (λ o. Stands P o (get m k))
            (ap (option_and_then present) (found_new done e more sorted)) (before k) in
            rw (found, same) none
        | false ↦ λ h.
            let found : value_at (done ++ e ∷ []) name ≡ value_at done name =
            ap (option_and_then present) (found_other done e name h) in
            rw found (before name)
      ] refl

  -- a member that is no value leaves no map
  pub stand_no : (done : List Entry) (e : Entry) (more : List Entry)
      → IsStrictlySortedBy string_cmp (keys_of (done ++ e ∷ more))
      → present (as_data e.1.now) ≡ Some (as_data e.1.now)
      → ((x : X) → P (as_data e.1.now) x → ⊥) → (m : Named X) → StandAt (done ++ e ∷ more) m → ⊥
  stand_no done e more sorted there none m is =
      let found : value_at (done ++ e ∷ more) (string_bytes e.0) ≡ Some (as_data e.1.now) =
      ap (option_and_then present) (found_here done e more sorted) ∙ there in
      let stands = subst (λ o. Stands P o (get m (string_bytes e.0))) found
      (is (string_bytes e.0)) in
      none stands.0 stands.2

  pub same_found : (es : List Entry) (ms : Members) (found : Option (Named X))
      → ((name : List ℕ) → found_at es name ≡ get_member name ms) → Finds (StandAt es) found
      → Finds (AreMembers P ms) found
  same_found es ms None same none =
      λ m is. none m (λ name. subst (λ o. Stands P (option_and_then present o) (get m name))
      (sym (same name)) (is name))
  same_found es ms (Some m) same is =
      λ name. subst (λ o. Stands P (option_and_then present o) (get m name)) (same name) (is name)

  -- what is found of the members is found of the object
  pub found_of_object : (value : Value Global)
      (members : Vec (Bor (List ℕ) × Value Global) Global) (found : Option (Named X))
      → value ≡ Object members
      → Finds (AreMembers P (data_of_members (members_view members.items) no_members)) found
      → Finds (IsTable P (as_data value)) found
  found_of_object value members found is h =
      let ms = data_of_members (members_view members.items) no_members in
      let seen : as_data value ≡ object ms = ap as_data is ∙ search (rules, the_lemmas) in
      found_of_members P (as_data value) ms found (sym (ap as_object seen)) h
