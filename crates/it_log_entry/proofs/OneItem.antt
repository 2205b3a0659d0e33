-- Lists of a document that have another number of items than one.
use Rattle.std.proofs.Common.{◌≡◌, ◌≢◌, List, [], ◌∷◌, length, refl}
use Rattle.std.specs.declared.alloc.Global.{Global}
use Rattle.json.specs.Value.{items_view}
use Rattle.json.specs.declared.value.Value.{Value}
use Rattle.serde_json.specs.Data.{Data}
use Rattle.it_base.specs.Sequence.{AreEach}
use Rattle.it_borrowed.specs.Tree.{data_of_items}

pub not_one : (items : List (Value Global)) (only : Data) → length items ≢ 1
    → ¬ AreEach (λ item x. item ≡ x) (data_of_items (items_view items)) (only ∷ [])
not_one [] only other is = absurd is
not_one (first ∷ []) only other is = other refl
not_one (first ∷ second ∷ rest) only other is = absurd is.1
