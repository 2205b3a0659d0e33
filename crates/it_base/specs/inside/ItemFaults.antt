-- Why the items of a list are not values, as the function that reads them reports it.
use Rattle.serde_json.specs.Data.{Data, Items}
use Rattle.it_base.specs.List.{IsFirstBad}
use Rattle.it_base.specs.declared.list.ListFault.{ListFault}
use Rattle.it_base.specs.declared.list.ListFault.TheVariants.{NoList, NoItem, OutOfMemory}

abbrev pub IsItemFault : {X : Type 0} → (Data → X → Type 0) → Items → ListFault → Type 0
IsItemFault P items NoList = ⊥
IsItemFault P items (NoItem n) = IsFirstBad P items n
IsItemFault P items OutOfMemory = Unit {0}
