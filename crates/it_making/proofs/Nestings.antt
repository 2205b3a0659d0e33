-- How deep lists and objects nest, item by item.
use Rattle.std.proofs.Common.{◌≡◌, ℕ, zero, suc, ◌+◌, ◌<◌, ◌≤◌, List, [], ◌∷◌, ◌++◌, length, take}
use Rattle.std.proofs.Common.{get_or, ap, sym, subst, ◌∙◌, arith}
use Rattle.std.proofs.lemmas.List.{take_more}
use Rattle.serde_json.specs.Data.{depth, items_depth, members_depth}
use Rattle.serde_json.specs.View.{items_view, members_view, view}
use Rattle.serde_json.specs.declared.value.Value.{Value}
use Rattle.serde_json.proofs.Views.{Entry}

-- no item nests deeper than its list's items
pub item_within : (vs : List Value) (i : ℕ) (v : Value) → i < length vs → v ≡ get_or vs i v
    → depth (view v) ≤ items_depth (items_view vs)
item_within [] i v below here = absurd (omega arith)
item_within (w ∷ vs) zero v below here =
    subst (λ x. depth (view x) ≤ items_depth (items_view (w ∷ vs))) (sym here) (omega arith)
item_within (w ∷ vs) (suc i) v below here =
    omega (arith, item_within vs i v (omega arith) here)

items_push : (vs : List Value) (v : Value) (levels : ℕ) → items_depth (items_view vs) ≤ levels
    → depth (view v) ≤ levels → items_depth (items_view (vs ++ v ∷ [])) ≤ levels
items_push [] v levels low here = omega (arith, here)
items_push (w ∷ vs) v levels low here =
    omega (arith, low, items_push vs v levels (omega (arith, low)) here)

-- one more item that is not too deep
pub items_more : (vs : List Value) (i : ℕ) (v : Value) (levels : ℕ) → i < length vs
    → v ≡ get_or vs i v → items_depth (items_view (take i vs)) ≤ levels
    → depth (view v) ≤ levels → items_depth (items_view (take (i + 1) vs)) ≤ levels
items_more vs i v levels below here low item =
    let cut : take (i + 1) vs ≡ take i vs ++ v ∷ [] = take_more vs i v below
    ∙ ap (λ y. take i vs ++ y ∷ []) (sym here) in
    rw cut (items_push (take i vs) v levels low item)

-- no member nests deeper than its object's members
pub member_within : (done : List Entry) (e : Entry) (left : List Entry)
    → depth (view e.1) ≤ members_depth (members_view (done ++ e ∷ left))
member_within [] e left = omega arith
member_within (x ∷ done) e left = omega (arith, member_within done e left)

-- one more member that is not too deep
pub members_push : (done : List Entry) (e : Entry) (levels : ℕ)
    → members_depth (members_view done) ≤ levels → depth (view e.1) ≤ levels
    → members_depth (members_view (done ++ e ∷ [])) ≤ levels
members_push [] e levels low here = omega (arith, here)
members_push (x ∷ done) e levels low here =
    omega (arith, low, members_push done e levels (omega (arith, low)) here)
