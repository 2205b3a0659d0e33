-- What is at the places of a policy and a layout (docs/formats.md; in-toto 1.0 section 4.3).
use Rattle.std.specs.Prelude.{ℕ, List, Option, Some, option_and_then, codes}
use Rattle.serde_json.specs.Data.{Data}
use Rattle.serde_json.specs.Find.{at}
use Rattle.it_base.specs.Document.{member_at}
use Rattle.it_findings.specs.declared.place.KeyPlace as keys
use Rattle.it_findings.specs.declared.place.Place as places

-- the item at a place in the list that is the member of this name
abbrev pub item_at : List ℕ → ℕ → Data → Option Data
item_at name n d = option_and_then (at n) (member_at name d)

-- the member of this name, in the object that is the member of another name
abbrev pub inner_at : List ℕ → List ℕ → Data → Option Data
inner_at outer name d = option_and_then (member_at name) (member_at outer d)

-- a builder of an expectation of a policy
abbrev pub builder_at : ℕ → ℕ → Data → Option Data
builder_at expectation builder d =
    option_and_then (item_at (codes "builders") builder)
    (item_at (codes "expectations") expectation d)

-- the key object at a place
abbrev pub key_at : keys.KeyPlace → Data → Option Data
key_at (keys.TheVariants.Owner id) d = inner_at (codes "owners") id d
key_at (keys.TheVariants.Builder expectation builder id) d =
    option_and_then (inner_at (codes "keys") id) (builder_at expectation builder d)
key_at (keys.TheVariants.Layout id) d = inner_at (codes "keys") id d

-- what is at a place of a document
abbrev pub object_at : places.Place → Data → Option Data
object_at places.TheVariants.Policy d = Some d
object_at (places.TheVariants.Expectation n) d = item_at (codes "expectations") n d
object_at (places.TheVariants.Builder expectation builder) d = builder_at expectation builder d
object_at places.TheVariants.Layout d = Some d
object_at (places.TheVariants.Step n) d = item_at (codes "steps") n d
object_at (places.TheVariants.Inspection n) d = item_at (codes "inspect") n d
object_at (places.TheVariants.Key key) d = key_at key d
object_at (places.TheVariants.KeyValue key) d =
    option_and_then (member_at (codes "keyval")) (key_at key d)

-- the place of a key is in a policy, or in a layout
abbrev pub IsKeyOfPolicy : keys.KeyPlace → Type 0
IsKeyOfPolicy (keys.TheVariants.Owner id) = Unit {0}
IsKeyOfPolicy (keys.TheVariants.Builder expectation builder id) = Unit {0}
IsKeyOfPolicy (keys.TheVariants.Layout id) = ⊥

abbrev pub IsKeyOfLayout : keys.KeyPlace → Type 0
IsKeyOfLayout (keys.TheVariants.Owner id) = ⊥
IsKeyOfLayout (keys.TheVariants.Builder expectation builder id) = ⊥
IsKeyOfLayout (keys.TheVariants.Layout id) = Unit {0}

-- the place is one of a policy
abbrev pub IsOfPolicy : places.Place → Type 0
IsOfPolicy places.TheVariants.Policy = Unit {0}
IsOfPolicy (places.TheVariants.Expectation n) = Unit {0}
IsOfPolicy (places.TheVariants.Builder expectation builder) = Unit {0}
IsOfPolicy places.TheVariants.Layout = ⊥
IsOfPolicy (places.TheVariants.Step n) = ⊥
IsOfPolicy (places.TheVariants.Inspection n) = ⊥
IsOfPolicy (places.TheVariants.Key key) = IsKeyOfPolicy key
IsOfPolicy (places.TheVariants.KeyValue key) = IsKeyOfPolicy key

-- the place is one of a layout
abbrev pub IsOfLayout : places.Place → Type 0
IsOfLayout places.TheVariants.Policy = ⊥
IsOfLayout (places.TheVariants.Expectation n) = ⊥
IsOfLayout (places.TheVariants.Builder expectation builder) = ⊥
IsOfLayout places.TheVariants.Layout = Unit {0}
IsOfLayout (places.TheVariants.Step n) = Unit {0}
IsOfLayout (places.TheVariants.Inspection n) = Unit {0}
IsOfLayout (places.TheVariants.Key key) = IsKeyOfLayout key
IsOfLayout (places.TheVariants.KeyValue key) = IsKeyOfLayout key
