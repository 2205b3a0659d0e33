-- Trees whose numbers are within the range of those that a document can have.
use Rattle.std.specs.Prelude.{Bool, true, ◌&&◌, is_some}
use Rattle.json.specs.Json.{Json, null, boolean, number, string, array, object}
use Rattle.json.specs.Json.{Items, no_items, item, Members, no_members, member}
use Rattle.serde_json.specs.Read.{number_of}

abbrev mutual
  pub in_range : Json → Bool
  in_range null = true
  in_range (boolean b) = true
  in_range (number s) = is_some (number_of s)
  in_range (string s) = true
  in_range (array js) = items_in_range js
  in_range (object ms) = members_in_range ms

  pub items_in_range : Items → Bool
  items_in_range no_items = true
  items_in_range (item j js) = in_range j && items_in_range js

  pub members_in_range : Members → Bool
  members_in_range no_members = true
  members_in_range (member name j ms) = in_range j && members_in_range ms
