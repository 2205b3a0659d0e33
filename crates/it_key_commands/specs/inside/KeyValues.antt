-- Texts that are put under names, where they are not empty.
use Rattle.std.specs.Prelude.{ℕ, List, []}
use Rattle.serde_json.specs.Data.{Members, put, string}

-- the members, with the text under the name, unless it is empty
abbrev pub put_filled : List ℕ → List ℕ → Members → Members
put_filled name [] members = members
put_filled name text members = put name (string text) members
