-- Lists of a document, item by item.
use Rattle.std.specs.Prelude.{◌≡◌, ℕ, ◌<◌, List, Option, Some, MatchOption, IsTrue, is_some}
use Rattle.std.specs.Prelude.{option_and_then}
use Rattle.serde_json.specs.Data.{Data, Items}
use Rattle.serde_json.specs.Find.{as_array, get_item}
use Rattle.it_base.specs.Document.{member_at}
use Rattle.it_base.specs.declared.list.ListFault.{ListFault}
use Rattle.it_base.specs.declared.list.ListFault.TheVariants.{NoList, NoItem, OutOfMemory}

-- the member of this name is a list, or it is missing
abbrev pub IsListOrMissing : List ℕ → Data → Type 0
IsListOrMissing name d =
    MatchOption (member_at name d) (Unit {0}) (λ v. IsTrue (is_some (as_array v)))

-- the item at a place, if there is one, is some value
abbrev pub ItemReads : {X : Type 0} → (Data → X → Type 0) → Items → ℕ → Type 0
ItemReads {X} P items n = (v : Data) → get_item n items ≡ Some v → (x : X) × P v x

-- the items of the member of this name, where it is a list
abbrev pub items_at : List ℕ → Data → Option Items
items_at name d = option_and_then as_array (member_at name d)

-- the item at a place of the list of this name, if there is one, is some value
abbrev pub PartItemReads : {X : Type 0} → (Data → X → Type 0) → List ℕ → Data → ℕ → Type 0
PartItemReads P name d n = MatchOption (items_at name d) (Unit {0}) (λ items. ItemReads P items n)

-- the place of the first item that is not a value
pub record IsFirstBad {X : Type 0} (P : Data → X → Type 0) (items : Items) (n : ℕ) : Type 0 where
  pub bad : ¬ ItemReads P items n
  pub before : (m : ℕ) → m < n → ItemReads P items m

-- why the member of this name is not a list of values
abbrev pub IsListFault : {X : Type 0} → (Data → X → Type 0) → List ℕ → Data → ListFault → Type 0
IsListFault P name d NoList = ¬ IsListOrMissing name d
IsListFault P name d (NoItem n) = MatchOption (items_at name d) ⊥ (λ items. IsFirstBad P items n)
IsListFault P name d OutOfMemory = Unit {0}
