-- Digests that are put into a JSON object, one after another.
use Rattle.std.specs.Prelude.{ℕ, List, Option, None, Some}
use Rattle.serde_json.specs.Data.{Members, put, string}
use Rattle.hex.specs.Hex.{encode_lower}

-- the members with the digest, if any, under the name
abbrev pub with_digest : List ℕ → Option (List ℕ) → Members → Members
with_digest name None members = members
with_digest name (Some digest) members = put name (string (encode_lower digest)) members
