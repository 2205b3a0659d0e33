-- How many objects a document has, and how many opening braces a text.
use Rattle.std.specs.Prelude.{ℕ, ◌+◌, ◌==◌, List, count_by}
use Rattle.std.specs.Str.{byte}
use Rattle.serde_json.specs.Data.{Data, null, boolean, number, string, array, object}
use Rattle.serde_json.specs.Data.{Items, no_items, item, Members, no_members, member}

-- how many of the bytes are an opening brace
abbrev pub braces : List ℕ → ℕ
braces bytes = count_by (λ b. b == byte "{") bytes

-- how many objects a document has: all that are within it, and itself where it is one
abbrev mutual
  pub objects : Data → ℕ
  objects null = 0
  objects (boolean b) = 0
  objects (number n) = 0
  objects (string s) = 0
  objects (array items) = item_objects items
  objects (object members) = 1 + member_objects members

  pub item_objects : Items → ℕ
  item_objects no_items = 0
  item_objects (item d items) = objects d + item_objects items

  pub member_objects : Members → ℕ
  member_objects no_members = 0
  member_objects (member name d members) = objects d + member_objects members
