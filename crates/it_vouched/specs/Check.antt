-- A check of signatures by what lines vouch for: which keys it knows, and which signatures are
-- valid (DSSE v1.0 leaves both to the user of the protocol; this profile's choice).
use Rattle.std.specs.Prelude.{ℕ, List, Bool, ◌&&◌, nat_eq, option_map}
use Rattle.std.specs.List.{list_any}
use Rattle.std.specs.Str.{bytes_eq}
use Rattle.it_dsse.specs.Check.{Check}
use Rattle.it_identity.specs.Name.{number_of}
use Rattle.it_vouched.specs.ObjectIdentity.{identity_in}
use Rattle.it_vouched.specs.declared.vouched.Vouched.{Vouched}

-- with this signature and this message, an identity of this number is vouched for
abbrev pub says : ℕ → List ℕ → List ℕ → Vouched → Bool
says n message signature v = bytes_eq v.signature signature
    && (bytes_eq v.message message && nat_eq (number_of v.identity) n)

-- what the lines answer: they know each object that describes an identity, by its number, and a
-- signature is valid where some line says so
abbrev pub vouched_check : List Vouched → Check
vouched_check vouched = record {
  key_of = λ id object. option_map number_of (identity_in object);
  is_valid = λ n message signature. list_any (says n message signature) vouched;
}
