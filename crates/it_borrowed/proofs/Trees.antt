-- The members of a tree, beside those of the document that it stands for.
use Rattle.std.proofs.Common.{◌≡◌, ℕ, zero, suc, List, [], ◌∷◌, ◌++◌, true, false, cond, Option, Some}
use Rattle.std.proofs.Common.{None, option_map, bytes_eq, true≢false, refl, sym, ap}
use Rattle.std.proofs.Common.{◌∙◌, Bor}
use Rattle.std.proofs.lemmas.Slice.Eq.{bytes_eq-Decides}
use Rattle.std.specs.declared.alloc.Global.{Global}
use Rattle.json.specs.Json as json
use Rattle.json.specs.Find as tree
use Rattle.json.specs.Value.{members_view, value_view}
use Rattle.json.specs.declared.value.Value.{Value}
use Rattle.serde_json.specs.Data.{Data}
use Rattle.serde_json.specs.Data.{Members, no_members, put}
use Rattle.serde_json.specs.Find.{at, get, get_item, get_member}
use Rattle.serde_json.proofs.Views.{get_member-put, get_member-put_other}
use Rattle.it_base.specs.Document.{present}
use Rattle.it_borrowed.specs.Tree.{as_data, data_of, data_of_items, data_of_members}

abbrev later : Option Data → Option Data → Option Data
later None earlier = earlier
later (Some d) earlier = Some d

here : (x : Option json.Json) (j : json.Json) (earlier : Option Data)
    → later (option_map data_of x) (Some (data_of j))
    ≡ later (option_map data_of (tree.later_or x (Some j))) earlier
here None j earlier = refl
here (Some i) j earlier = refl

elsewhere : (x : Option json.Json) (earlier : Option Data) → later (option_map data_of x) earlier
    ≡ later (option_map data_of (tree.later_or x None)) earlier
elsewhere None earlier = refl
elsewhere (Some i) earlier = refl

found_or : (name : List ℕ) (ms : json.Members) (found : Members)
    → get_member name (data_of_members ms found)
    ≡ later (option_map data_of (tree.get_member name ms)) (get_member name found)
found_or name json.no_members found = refl
found_or name (json.member k j ms) found =
    let first = found_or name ms (put k (data_of j) found) in
    let x = tree.get_member name ms in
    elim (bytes_eq k name) as (λ b. bytes_eq k name ≡ b
    → get_member name (data_of_members ms (put k (data_of j) found))
    ≡ later (option_map data_of (tree.later_or x (cond b (Some j) None)))
    (get_member name found)) [
      | true ↦ λ e.
          let same : k ≡ name = (bytes_eq-Decides k name).0 e in
          first ∙ ap (λ n. later (option_map data_of x) (get_member n (put k (data_of j) found)))
          (sym same) ∙ ap (later (option_map data_of x)) (get_member-put k (data_of j) found)
          ∙ here x j (get_member name found)
      | false ↦ λ e.
          let other = λ (s : name ≡ k). absurd
          (true≢false (sym ((bytes_eq-Decides k name).1 (sym s)) ∙ e)) in
          first ∙ ap (later (option_map data_of x))
          (get_member-put_other name k (data_of j) found other)
          ∙ elsewhere x (get_member name found)
    ] refl

or_none : (x : Option Data) → later x None ≡ x
or_none None = refl
or_none (Some d) = refl

-- what a tree has at a name, its document has there
pub get-data_of : (name : List ℕ) (j : json.Json)
    → get name (data_of j) ≡ option_map data_of (tree.get name j)
get-data_of name json.null = refl
get-data_of name (json.boolean b) = refl
get-data_of name (json.number s) = refl
get-data_of name (json.string s) = refl
get-data_of name (json.array js) = refl
get-data_of name (json.object ms) = found_or name ms no_members ∙ or_none _

pub present-null : (j : json.Json) → tree.is_null j ≡ true → present (data_of j) ≡ None
present-null json.null e = refl
present-null j e = absurd (cc)

pub present-other : (j : json.Json) → tree.is_null j ≡ false
    → present (data_of j) ≡ Some (data_of j)
present-other json.null e = absurd (cc)
present-other j e = refl

-- and what it has at a place
item-data_of : (n : ℕ) (js : json.Items)
    → get_item n (data_of_items js) ≡ option_map data_of (tree.get_item n js)
item-data_of n json.no_items = refl
item-data_of zero (json.item j js) = refl
item-data_of (suc n) (json.item j js) = item-data_of n js

at-data_of : (n : ℕ) (j : json.Json) → at n (data_of j) ≡ option_map data_of (tree.at n j)
at-data_of n json.null = refl
at-data_of n (json.boolean b) = refl
at-data_of n (json.number s) = refl
at-data_of n (json.string s) = refl
at-data_of n (json.array js) = item-data_of n js
at-data_of n (json.object ms) = refl

as_data-of : (found : Option (Bor (Value Global)))
    → option_map (λ v. as_data v.now) found
    ≡ option_map data_of (option_map (λ v. value_view v.now) found)
as_data-of None = refl
as_data-of (Some v) = refl

pub found_at_place : (n : ℕ) (j : json.Json) (found : Option (Bor (Value Global)))
    → option_map (λ v. value_view v.now) found ≡ tree.at n j
    → option_map (λ v. as_data v.now) found ≡ at n (data_of j)
found_at_place n j found is =
    as_data-of found ∙ ap (option_map data_of) is ∙ sym (at-data_of n j)

-- one more member goes in after the others
pub data_of_members-push : (ms : List (Bor (List ℕ) × Value Global))
    (m : Bor (List ℕ) × Value Global) (found : Members)
    → data_of_members (members_view (ms ++ m ∷ [])) found
    ≡ put m.0.now (as_data m.1) (data_of_members (members_view ms) found)
data_of_members-push [] m found = refl
data_of_members-push (first ∷ ms) m found =
    data_of_members-push ms m (put first.0.now (as_data first.1) found)
