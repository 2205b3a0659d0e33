-- Rings of secrets, and their use as checks (this profile's choice).
use Rattle.std.specs.Prelude.{ℕ, ◌≤◌, List, length, map, Bool, false, if◌then◌else◌, Option, None}
use Rattle.std.specs.Prelude.{option_map, option_and_then, unwrap_or, codes, find, position}
use Rattle.std.specs.Prelude.{slice_get}
use Rattle.std.specs.List.{IsDistinct}
use Rattle.std.specs.Str.{bytes_eq}
use Rattle.serde_json.specs.Data.{Data}
use Rattle.it_base.specs.Document.{OfDocument}
use Rattle.it_base.specs.HexadecimalText.{IsHexadecimal}
use Rattle.it_base.specs.Parts.{IsPart}
use Rattle.it_base.specs.Sequence.{IsList}
use Rattle.it_base.specs.Text.{IsText}
use Rattle.it_dsse.specs.Check.{Check}
use Rattle.it_dsse.specs.Hmac.{block_of, hmac}
use Rattle.it_dsse.specs.declared.ring_entry.RingEntry.{RingEntry}

-- a ring's entry in a document
pub record IsRingEntry (d : Data) (entry : RingEntry) : Type 0 where
  pub id : IsPart IsText (codes "id") d entry.id
  pub secret : IsPart IsHexadecimal (codes "secret") d entry.secret

-- the ids, in the order of the entries
abbrev pub ids_of : List RingEntry → List (List ℕ)
ids_of ring = map (λ entry. entry.id) ring

-- the bytes are a document that is this ring: a list of at most 65536 entries, in which no id
-- occurs twice
pub record RingOf (bytes : List ℕ) (ring : List RingEntry) : Type 0 where
  pub entries : OfDocument (IsList IsRingEntry) bytes ring
  pub few : length ring ≤ 65536
  pub distinct : IsDistinct bytes_eq (ids_of ring)

-- the entry has this id
abbrev pub has_id : List ℕ → RingEntry → Bool
has_id id entry = bytes_eq entry.id id

-- the entry has this key, as a block
abbrev pub has_key : List ℕ → RingEntry → Bool
has_key key entry = bytes_eq (block_of entry.secret) key

-- the number of the key under an id: the place of the first entry that has the same key
abbrev pub number_of : List RingEntry → List ℕ → Option ℕ
number_of ring id =
    option_and_then (λ entry. position (has_key (block_of entry.secret)) ring)
    (find (has_id id) ring)

-- the signature is the code of the message under the secret at a place
abbrev pub is_code_at : List RingEntry → ℕ → List ℕ → List ℕ → Bool
is_code_at ring n message sig =
    unwrap_or
    (option_map (λ entry. bytes_eq (hmac entry.secret message) sig) (slice_get ring n)) false

-- what a ring answers: it knows only keys of the scheme hmac-sha256
abbrev pub ring_check : List RingEntry → Check
ring_check ring = record {
  key_of = λ id object.
      if bytes_eq object.scheme (codes "hmac-sha256") then number_of ring id else None;
  is_valid = is_code_at ring;
}
