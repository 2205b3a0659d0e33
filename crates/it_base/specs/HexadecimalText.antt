-- Bytes written as hexadecimal texts (RFC 4648 section 8; digits of either case).
use Rattle.std.specs.Prelude.{◌≡◌, ℕ, List, Option, Some, option_and_then}
use Rattle.std.specs.Result.{result_ok}
use Rattle.hex.specs.Hex.{decode_of}
use Rattle.serde_json.specs.Data.{Data}
use Rattle.serde_json.specs.Find.{as_str}

-- the bytes that a text encodes, with two digits per byte
unfoldable pub hexadecimal_decoded : List ℕ → Option (List ℕ)
hexadecimal_decoded text = result_ok (decode_of text)

-- the part is a text that encodes these bytes
abbrev pub IsHexadecimal : Data → List ℕ → Type 0
IsHexadecimal d bytes = option_and_then hexadecimal_decoded (as_str d) ≡ Some bytes
