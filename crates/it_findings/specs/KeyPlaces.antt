-- The places of key objects (in-toto 1.0 section 4.2), by their lists and their ids.
use Rattle.std.specs.Prelude.{ℕ, List}
use Rattle.it_findings.specs.declared.null_key.KeyList.{KeyList}
use Rattle.it_findings.specs.declared.null_key.KeyList.TheVariants as lists
use Rattle.it_findings.specs.declared.place.KeyPlace.{KeyPlace}
use Rattle.it_findings.specs.declared.place.KeyPlace.TheVariants as keys

-- the place under an id of a list
abbrev pub key_place : KeyList → List ℕ → KeyPlace
key_place lists.Owners id = keys.Owner id
key_place (lists.OfBuilder expectation builder) id = keys.Builder expectation builder id
key_place lists.OfLayout id = keys.Layout id

-- the list, and the id under which the key object at a place stands
abbrev pub list_of : KeyPlace → KeyList
list_of (keys.Owner id) = lists.Owners
list_of (keys.Builder expectation builder id) = lists.OfBuilder expectation builder
list_of (keys.Layout id) = lists.OfLayout

abbrev pub id_of : KeyPlace → List ℕ
id_of (keys.Owner id) = id
id_of (keys.Builder expectation builder id) = id
id_of (keys.Layout id) = id
