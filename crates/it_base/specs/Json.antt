-- What a tree of parameters is: a JSON value whose numbers are whole, or `other`.
use Rattle.std.specs.Prelude.{ℕ, suc, max, ℤ, List, Bool}

mutual
  -- a number that serde_json does not read as an integer of 64 bits is `other`
  pub data Json : Type 0 where
    null : Json
    flag : Bool → Json
    whole : ℤ → Json
    text : List ℕ → Json
    items : Items → Json
    members : Fields → Json
    other : Json

  pub data Items : Type 0 where
    no_items : Items
    item : Json → Items → Items

  pub data Fields : Type 0 where
    no_fields : Fields
    field : List ℕ → Json → Fields → Fields

abbrev mutual
  pub json_size : Json → ℕ
  json_size (items ds) = suc (items_size ds)
  json_size (members ms) = suc (fields_size ms)
  json_size d = 0

  pub items_size : Items → ℕ
  items_size no_items = 0
  items_size (item d ds) = max (suc (json_size d)) (items_size ds)

  pub fields_size : Fields → ℕ
  fields_size no_fields = 0
  fields_size (field k d ms) = max (suc (json_size d)) (fields_size ms)
