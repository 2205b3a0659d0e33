-- How a report, and how a note, writes a name, an id or a path (this profile's choice).
use Rattle.std.specs.Prelude.{ℕ, ◌+◌, ◌-◌, ◌/◌, ◌%◌, List, [], ◌∷◌, ◌++◌, Bool, ◌&&◌, not, ◌==◌}
use Rattle.std.specs.Prelude.{nat_le, nat_lt, if◌then◌else◌, codes, length, take}
use Rattle.std.specs.List.{flat_map}

-- a byte that is written as it is: a visible ASCII character other than a backslash
abbrev pub is_plain : ℕ → Bool
is_plain byte = nat_le 0x21 byte && nat_le byte 0x7e && not (byte == 0x5c)

-- a number below 16 as a hexadecimal digit, in lower case
abbrev pub digit_form : ℕ → ℕ
digit_form n = if nat_lt n 10 then 48 + n else 97 + (n - 10)

-- a byte as itself, or as \x and two digits
abbrev pub byte_form : ℕ → List ℕ
byte_form byte =
    if is_plain byte then byte ∷ [] else codes "\\x" ++ digit_form (byte / 16)
    ∷ digit_form (byte % 16) ∷ []

-- a name byte by byte, an empty one as \e
unfoldable pub name_form : List ℕ → List ℕ
name_form [] = codes "\\e"
name_form (byte ∷ bytes) = flat_map byte_form (byte ∷ bytes)

-- a byte of a name among names that / separates: / as \x2f, any other as usual
abbrev pub inner_byte_form : ℕ → List ℕ
inner_byte_form byte = if byte == 0x2f then codes "\\x2f" else byte_form byte

-- a name among names that / separates, byte by byte, an empty one as \e
unfoldable pub inner_form : List ℕ → List ℕ
inner_form [] = codes "\\e"
inner_form (byte ∷ bytes) = flat_map inner_byte_form (byte ∷ bytes)

-- a name in a note: whole where it has at most 200 bytes, otherwise its first 200 and two dots
unfoldable pub cut_form : List ℕ → List ℕ
cut_form name =
    if nat_le (length name) 200 then name_form name else name_form (take 200 name) ++ codes ".."
