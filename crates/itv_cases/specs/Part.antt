-- What the parts of a case mean (a format of this project).
use Rattle.std.specs.Prelude.{◌≡◌, ℕ, List, Some}
use Rattle.serde_json.specs.Data.{Data, item, no_items}
use Rattle.serde_json.specs.Find.{as_array, as_str}
use Rattle.it_tables.specs.Part.{IsBytes}

-- the part is a list of a name and a second part
pub record IsPair (d : Data) (name : List ℕ) (content : Data) : Type 0 where
  pub first : Data
  pub list : as_array d ≡ Some (item first (item content no_items))
  pub is_name : as_str first ≡ Some name

-- the part is a list of a name and bytes
pub record IsNamed (d : Data) (named : List ℕ × List ℕ) : Type 0 where
  pub content : Data
  pub pair : IsPair d named.0 content
  pub bytes : IsBytes content named.1
