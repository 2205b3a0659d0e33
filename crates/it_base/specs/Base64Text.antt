-- Bytes written as base64 texts (RFC 4648 sections 4 and 5, with padding).
use Rattle.std.specs.Prelude.{◌≡◌, ℕ, List, Bool, ◌||◌, ◌==◌, if◌then◌else◌, Option, Some}
use Rattle.std.specs.Prelude.{option_and_then}
use Rattle.std.specs.List.{list_any}
use Rattle.serde_json.specs.Data.{Data}
use Rattle.serde_json.specs.Find.{as_str}
use Rattle.base64.specs.Engines.{standard, url_safe}
use Rattle.base64.specs.GeneralPurpose.{decoded_of, encode_of}

-- a byte that only the alphabet for URLs and file names has: a dash or an underscore
abbrev pub is_url_mark : ℕ → Bool
is_url_mark byte = byte == 45 || byte == 95

-- the bytes that a text encodes: any dash or underscore selects the alphabet for URLs and file
-- names for the whole text (this profile's choice; DSSE v1.0 allows either alphabet)
unfoldable pub base64_decoded : List ℕ → Option (List ℕ)
base64_decoded text = decoded_of (if list_any is_url_mark text then url_safe else standard) text

-- the text that encodes bytes, in the standard alphabet with padding (RFC 4648 section 4)
unfoldable pub base64_encoded : List ℕ → List ℕ
base64_encoded bytes = encode_of standard bytes

-- the part is a text that encodes these bytes
abbrev pub IsBase64 : Data → List ℕ → Type 0
IsBase64 d bytes = option_and_then base64_decoded (as_str d) ≡ Some bytes
