-- Key objects that are null in a policy and in a layout: such a member counts as missing, so that
-- its key is not asked for (that it is found is a word of this project).
use Rattle.std.specs.Prelude.{◌≡◌, ℕ, List, [], ◌∷◌, ◌++◌, option_and_then, map, codes}
use Rattle.std.specs.Option.{option_map_or}
use Rattle.serde_json.specs.Data.{Data, null, Items, no_items, item, Members, no_members, member}
use Rattle.serde_json.specs.Find.{as_object}
use Rattle.it_base.specs.Document.{IsDocument, member_at}
use Rattle.it_base.specs.List.{items_at}
use Rattle.it_findings.specs.Joined.{Joined}
use Rattle.it_findings.specs.declared.null_key.KeyList.{KeyList}
use Rattle.it_findings.specs.declared.null_key.KeyList.TheVariants.{OfBuilder, OfLayout, Owners}
use Rattle.it_findings.specs.declared.null_key.NullKey.{NullKey}

-- the ids under which null stands, in the order of the members, which is that of their bytes
abbrev pub null_ids : Members → List (List ℕ)
null_ids no_members = []
null_ids (member id null ms) = id ∷ null_ids ms
null_ids (member id d ms) = null_ids ms

-- the ids under which null stands in the object that is the member of this name
abbrev pub null_ids_at : List ℕ → Data → List (List ℕ)
null_ids_at name d = option_map_or null_ids (option_and_then as_object (member_at name d)) []

-- null under an id of a list of key objects
abbrev pub null_key : KeyList → List ℕ → NullKey
null_key list id = record { list = list; id = id }

-- what is found in the list of key objects that is the member of this name: each id with null
abbrev pub NullKeys : KeyList → List ℕ → Data → List NullKey → Type 0
NullKeys list name d found = found ≡ map (null_key list) (null_ids_at name d)

-- the items of a list, and those of the list that is the member of this name
abbrev pub listed : Items → List Data
listed no_items = []
listed (item d ds) = d ∷ listed ds

abbrev pub list_at : List ℕ → Data → List Data
list_at name d = option_map_or listed (items_at name d) []

-- what is found in the keys of the builder at a place of the expectation at another
abbrev pub BuilderNulls : ℕ → ℕ → Data → List NullKey → Type 0
BuilderNulls expectation place d found =
    NullKeys (OfBuilder expectation place) (codes "keys") d found

-- what is found in the builders of the expectation at a place, in their order
abbrev pub ExpectationNulls : ℕ → Data → List NullKey → Type 0
ExpectationNulls place d found = Joined (BuilderNulls place) (list_at (codes "builders") d) found

-- what is found in a policy: in its owners, and then in the builders of each expectation in order
pub record PolicyNulls (d : Data) (found : List NullKey) : Type 0 where
  pub of_owners : List NullKey
  pub of_builders : List NullKey
  pub found_are : found ≡ of_owners ++ of_builders
  pub owners : NullKeys Owners (codes "owners") d of_owners
  pub builders : Joined ExpectationNulls (list_at (codes "expectations") d) of_builders

-- what is found in a layout: in its keys
abbrev pub LayoutNulls : Data → List NullKey → Type 0
LayoutNulls d found = NullKeys OfLayout (codes "keys") d found

-- the same of bytes: of the document that they are, if they are one
abbrev pub NullsOf : (Data → List NullKey → Type 0) → List ℕ → List NullKey → Type 0
NullsOf Nulls bytes found = (d : Data) → IsDocument bytes d → Nulls d found
