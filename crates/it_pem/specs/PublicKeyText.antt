-- Public keys as PEM texts (RFC 7468).
use Rattle.std.specs.Prelude.{ℕ, ◌&&◌, Bool, List, [], ◌∷◌, ◌++◌, Option, Some, None, codes, length}
use Rattle.std.specs.Prelude.{if◌then◌else◌, nat_lt, option_and_then, option_map}
use Rattle.std.specs.Str.{bytes_eq}
use Rattle.std.specs.Str.Lines.{lines}
use Rattle.base64.specs.Engines.{standard}
use Rattle.base64.specs.GeneralPurpose.{decoded_of}

-- the first line and the last (sections 2 and 13)
abbrev pub begin_mark : List ℕ
begin_mark = codes "-----BEGIN PUBLIC KEY-----"

abbrev pub end_mark : List ℕ
end_mark = codes "-----END PUBLIC KEY-----"

-- a line between them has 1 to 76 characters (this profile's choice: section 2 writes 64, and lets
-- a reader take others)
abbrev pub is_body_line : List ℕ → Bool
is_body_line line = nat_lt 0 (length line) && nat_lt (length line) 77

-- the lines before the last one, joined, where the last one is the end mark
abbrev pub joined_to_end : List (List ℕ) → Option (List ℕ)
joined_to_end [] = None
joined_to_end (line ∷ []) = if bytes_eq line end_mark then Some [] else None
joined_to_end (line ∷ next ∷ rest) =
    if is_body_line line then option_map (λ more. line ++ more) (joined_to_end (next ∷ rest))
    else None

-- the text between the marks
abbrev pub body_of : List (List ℕ) → Option (List ℕ)
body_of [] = None
body_of (first ∷ rest) = if bytes_eq first begin_mark then joined_to_end rest else None

-- a text, if it has at most `n` characters
abbrev pub at_most : ℕ → Option (List ℕ) → Option (List ℕ)
at_most n None = None
at_most n (Some text) = if nat_lt n (length text) then None else Some text

-- the bytes that a text encodes in base64 (RFC 4648, section 4) between its marks, in at most 2,048
-- characters (this profile's choice)
unfoldable pub info_in : List ℕ → Option (List ℕ)
info_in text = option_and_then (decoded_of standard) (at_most 2048 (body_of (lines text)))
