-- The first item of a list that is no value.
use Rattle.std.proofs.Common.{◌≡◌, ℕ, zero, suc, ◌<◌, List, [], ◌∷◌, length, take, get_or, Some}
use Rattle.std.proofs.Common.{refl, sym, ap, arith, ◌∙◌}
use Rattle.std.specs.declared.alloc.Global.{Global}
use Rattle.json.specs.Value.{items_view}
use Rattle.json.specs.declared.value.Value.{Value}
use Rattle.serde_json.specs.Data.{Data}
use Rattle.serde_json.specs.Find.{get_item}
use Rattle.it_base.specs.List.{IsFirstBad}
use Rattle.it_base.specs.Sequence.{AreEach}
use Rattle.it_base.proofs.Lists.{each_reads}
use Rattle.it_borrowed.specs.Tree.{as_data, data_of_items}

-- the item at a place
item_within : (vs : List (Value Global)) (i : ℕ) (v : Value Global) → i < length vs
    → get_item i (data_of_items (items_view vs)) ≡ Some (as_data (get_or vs i v))
item_within [] i v below = absurd (omega arith)
item_within (w ∷ vs) zero v below = refl
item_within (w ∷ vs) (suc i) v below = item_within vs i v (omega arith)

-- the items before a place are those of the list's front
item_in_front : (vs : List (Value Global)) (i m : ℕ) → m < i
    → get_item m (data_of_items (items_view (take i vs)))
    ≡ get_item m (data_of_items (items_view vs))
item_in_front vs zero m below = absurd (omega arith)
item_in_front [] (suc i) m below = refl
item_in_front (v ∷ vs) (suc i) zero below = refl
item_in_front (v ∷ vs) (suc i) (suc m) below = item_in_front vs i m (omega arith)

-- an item that is no value, after items that are
pub first_bad : {X : Type 0} (P : Data → X → Type 0) (vs : List (Value Global)) (i : ℕ)
    (v : Value Global) (xs : List X) → i < length vs → v ≡ get_or vs i v
    → ((x : X) → P (as_data v) x → ⊥) → AreEach P (data_of_items (items_view (take i vs))) xs
    → IsFirstBad P (data_of_items (items_view vs)) i
first_bad P vs i v xs below here none before = record {
  bad = λ reads.
      let found : get_item i (data_of_items (items_view vs)) ≡ Some (as_data v) =
      item_within vs i v below ∙ ap (λ w. Some (as_data w)) (sym here) in
      let read = reads (as_data v) found in
      none read.0 read.1;
  before = λ m less w e. each_reads P (data_of_items (items_view (take i vs))) xs before m w
      (item_in_front vs i m less ∙ e);
}
