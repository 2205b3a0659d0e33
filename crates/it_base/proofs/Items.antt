-- Lists of a document, read item by item.
use Rattle.std.proofs.Common.{◌≡◌, ℕ, zero, suc, ◌+◌, ◌<◌, List, [], ◌∷◌, ◌++◌, length, take}
use Rattle.std.proofs.Common.{get_or, refl, sym, ap, subst, arith, ◌∙◌}
use Rattle.std.proofs.lemmas.List.{take_more}
use Rattle.serde_json.specs.Data.{Data, Items, no_items, item, array}
use Rattle.serde_json.specs.View.{view, items_view}
use Rattle.serde_json.specs.declared.value.Value.{Value}
use Rattle.it_base.specs.Sequence.{AreEach, IsList}

-- one more item, and its element
pub each_push : {X : Type 0} (P : Data → X → Type 0) (vs : List Value) (xs : List X) (v : Value)
    (x : X)
    → AreEach P (items_view vs) xs → P (view v) x → AreEach P (items_view (vs ++ v ∷ []))
    (xs ++ x ∷ [])
each_push P [] [] v x h p = (p, tt)
each_push P [] (y ∷ ys) v x h p = absurd h
each_push P (w ∷ vs) [] v x h p = absurd h
each_push P (w ∷ vs) (y ∷ ys) v x h p = (h.0, each_push P vs ys v x h.1 p)

-- one more item is read
pub each_more : {X : Type 0} (P : Data → X → Type 0) (vs : List Value) (i : ℕ) (v : Value)
    (xs : List X) (x : X) → i < length vs → v ≡ get_or vs i v
    → AreEach P (items_view (take i vs)) xs → P (view v) x
    → AreEach P (items_view (take (i + 1) vs)) (xs ++ x ∷ [])
each_more P vs i v xs x below here before p =
    let cut : take (i + 1) vs ≡ take i vs ++ v ∷ [] = take_more vs i v below
    ∙ ap (λ y. take i vs ++ y ∷ []) (sym here) in
    rw cut (each_push P (take i vs) xs v x before p)

-- an item that is no element leaves no list
pub each_none : {X : Type 0} (P : Data → X → Type 0) (vs : List Value) (i : ℕ) (v : Value)
    → i < length vs → v ≡ get_or vs i v
    → ((x : X) → P (view v) x → ⊥) → (xs : List X) → AreEach P (items_view vs) xs → ⊥
each_none P [] i v below here no_element xs h = absurd (omega arith)
each_none P (w ∷ vs) i v below here no_element [] h = h
each_none P (w ∷ vs) zero v below here no_element (x ∷ xs) h =
    no_element x (subst (λ y. P (view y) x) (sym here) h.0)
each_none P (w ∷ vs) (suc i) v below here no_element (x ∷ xs) h =
    each_none P vs i v (omega arith) here no_element xs h.1

-- where each item is one element at most, a list is one list at most
pub each_same : {X : Type 0} (P : Data → X → Type 0) (same : (d : Data) (x y : X) → P d x → P d y
    → x ≡ y) (ds : Items) (xs ys : List X)
    → AreEach P ds xs → AreEach P ds ys → xs ≡ ys
each_same P same no_items [] [] h k = refl
each_same P same no_items [] (y ∷ ys) h k = absurd k
each_same P same no_items (x ∷ xs) ys h k = absurd h
each_same P same (item d ds) [] ys h k = absurd h
each_same P same (item d ds) (x ∷ xs) [] h k = absurd k
each_same P same (item d ds) (x ∷ xs) (y ∷ ys) h k =
    let head : x ≡ y = same d x y h.0 k.0 in
    let tail : xs ≡ ys = each_same P same ds xs ys h.1 k.1 in
    cc

-- and so is the list that a part is
pub list_same : {X : Type 0} (P : Data → X → Type 0) (same : (d : Data) (x y : X) → P d x → P d y
    → x ≡ y) (d : Data) (xs ys : List X)
    → IsList P d xs → IsList P d ys → xs ≡ ys
list_same P same (array ds) xs ys h k = each_same P same ds xs ys h k
list_same P same d xs ys h k = absurd h
