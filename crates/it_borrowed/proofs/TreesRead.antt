-- Trees read from a document, part by part.
use Rattle.std.proofs.Common.{◌≡◌, ℕ, ◌+◌, ◌<◌, List, [], ◌∷◌, ◌++◌, length, take, get_or, Bor}
use Rattle.std.proofs.Common.{String, Global, Ordering, Less, Equal, Greater, string_bytes}
use Rattle.std.proofs.Common.{string_cmp, nat_cmp, refl, sym, ap, ◌∙◌}
use Rattle.std.proofs.lemmas.List.{take_more}
use Rattle.std.specs.BTreeMap.{insert_entry}
use Rattle.std.specs.Cmp.Lexicographic.{slice_cmp}
use Rattle.std.specs.Ordering.{match_ordering}
use Rattle.json.specs.Value.{items_view as parts_view, members_view}
use Rattle.json.specs.declared.value.Value.{Value}
use Rattle.serde_json.specs.Data as d
use Rattle.it_base.specs.Json as j
use Rattle.it_base.specs.JsonView.{json_of, items_view, fields_view}
use Rattle.it_base.specs.TreeOf.{fields_of, tree_of, trees_of}
use Rattle.it_base.specs.declared.tree.Tree.{Tree}
use Rattle.it_borrowed.specs.Tree.{as_data, data_of_items, data_of_members}
use Rattle.it_borrowed.proofs.Trees.{data_of_members-push}

-- ---- items
abbrev item_last : j.Items → j.Json → j.Items
item_last j.no_items t = j.item t j.no_items
item_last (j.item s ss) t = j.item s (item_last ss t)

items_view-last : (ts : List Tree) (t : Tree)
    → items_view (ts ++ t ∷ []) ≡ item_last (items_view ts) (json_of t)
items_view-last [] t = refl
items_view-last (s ∷ ss) t = ap (j.item (json_of s)) (items_view-last ss t)

trees_of-last : (vs : List (Value Global)) (v : Value Global)
    → trees_of (data_of_items (parts_view (vs ++ v ∷ [])))
    ≡ item_last (trees_of (data_of_items (parts_view vs))) (tree_of (as_data v))
trees_of-last [] v = refl
trees_of-last (w ∷ ws) v = ap (j.item (tree_of (as_data w))) (trees_of-last ws v)

-- one more item is read
pub trees_more : (ts : List Tree) (t : Tree) (vs : List (Value Global)) (i : ℕ) (v : Value Global)
    → i < length vs → v ≡ get_or vs i v
    → items_view ts ≡ trees_of (data_of_items (parts_view (take i vs)))
    → json_of t ≡ tree_of (as_data v)
    → items_view (ts ++ t ∷ []) ≡ trees_of (data_of_items (parts_view (take (i + 1) vs)))
trees_more ts t vs i v below here before is =
    let cut : take (i + 1) vs ≡ take i vs ++ v ∷ [] = take_more vs i v below
    ∙ ap (λ y. take i vs ++ y ∷ []) (sym here) in
    items_view-last ts t ∙ rw (before, is, cut) (sym (trees_of-last (take i vs) v))

-- ---- members
-- the fields, with t at k
abbrev put_field : List ℕ → j.Json → j.Fields → j.Fields
put_field k t j.no_fields = j.field k t j.no_fields
put_field k t (j.field l s fs) = match_ordering (slice_cmp nat_cmp k l)
    (j.field k t (j.field l s fs)) (j.field l t fs) (j.field l s (put_field k t fs))

fields_view-match_ordering : (o : Ordering) (a b c : List (String Global × Tree))
    → fields_view (match_ordering o a b c) ≡ match_ordering o (fields_view a) (fields_view b)
    (fields_view c)
fields_view-match_ordering Less a b c = refl
fields_view-match_ordering Equal a b c = refl
fields_view-match_ordering Greater a b c = refl

fields_view-insert_entry : (es : List (String Global × Tree)) (k : String Global) (t : Tree)
    → fields_view (insert_entry string_cmp es k t) ≡ put_field (string_bytes k) (json_of t)
    (fields_view es)
fields_view-insert_entry [] k t = refl
fields_view-insert_entry (e ∷ es) k t = fields_view-match_ordering (string_cmp k e.0) _ _ _
    ∙ rw (fields_view-insert_entry es k t)

fields_of-match_ordering : (o : Ordering) (a b c : d.Members) → fields_of (match_ordering o a b c)
    ≡ match_ordering o (fields_of a) (fields_of b) (fields_of c)
fields_of-match_ordering Less a b c = refl
fields_of-match_ordering Equal a b c = refl
fields_of-match_ordering Greater a b c = refl

fields_of-put : (k : List ℕ) (e : d.Data) (ms : d.Members) → fields_of (d.put k e ms)
    ≡ put_field k (tree_of e) (fields_of ms)
fields_of-put k e d.no_members = refl
fields_of-put k e (d.member l f ms) = fields_of-match_ordering (slice_cmp nat_cmp k l) _ _ _
    ∙ rw (fields_of-put k e ms)

-- one more member is read
pub members_more : (es : List (String Global × Tree)) (k : String Global) (t : Tree)
    (ms : List (Bor (List ℕ) × Value Global)) (i : ℕ) (m : Bor (List ℕ) × Value Global)
    → i < length ms → m ≡ get_or ms i m
    → fields_view es ≡ fields_of (data_of_members (members_view (take i ms)) d.no_members)
    → string_bytes k ≡ m.0.now → json_of t ≡ tree_of (as_data m.1)
    → fields_view (insert_entry string_cmp es k t)
    ≡ fields_of (data_of_members (members_view (take (i + 1) ms)) d.no_members)
members_more es k t ms i m below here before named is =
    let cut : take (i + 1) ms ≡ take i ms ++ m ∷ [] = take_more ms i m below
    ∙ ap (λ y. take i ms ++ y ∷ []) (sym here) in
    fields_view-insert_entry es k t
    ∙ rw (named, is, before, cut)
    (sym (fields_of-put m.0.now (as_data m.1)
    (data_of_members (members_view (take i ms)) d.no_members))
    ∙ ap fields_of (sym (data_of_members-push (take i ms) m d.no_members)))
