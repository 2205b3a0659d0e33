-- Texts, lists and objects in JSON (RFC 8259), with no space between them.
use Rattle.std.specs.Prelude.{ℕ, ◌/◌, ◌%◌, List, [], ◌∷◌, ◌++◌, Bool, ◌||◌, ◌==◌, nat_lt}
use Rattle.std.specs.Prelude.{if◌then◌else◌, codes}
use Rattle.std.specs.List.{flat_map}
use Rattle.it_report.specs.Name.{digit_form}

-- a quotation mark or a backslash
abbrev pub is_special : ℕ → Bool
is_special byte = byte == 0x22 || byte == 0x5c

-- a byte of a text (RFC 8259, section 7): a control character by its number, in four lower-case
-- hexadecimal digits, a quotation mark or a backslash with a backslash before it, any other as
-- itself (this profile's choice among the escapes of the RFC)
abbrev pub escaped : ℕ → List ℕ
escaped byte =
    if nat_lt byte 0x20 then codes "\\u00" ++ digit_form (byte / 16) ∷ digit_form (byte % 16) ∷ []
    else (if is_special byte then codes "\\" ++ byte ∷ [] else byte ∷ [])

-- a text of these bytes, between quotation marks (RFC 8259, section 7)
abbrev pub json_text : List ℕ → List ℕ
json_text bytes = codes "\"" ++ flat_map escaped bytes ++ codes "\""

-- what a form writes for each item, with a comma before it
abbrev pub further : {X : Type 0} → (X → List ℕ) → List X → List ℕ
further form items = flat_map (λ item. codes "," ++ form item) items

-- what a form writes for each item, separated by commas
abbrev pub parted : {X : Type 0} → (X → List ℕ) → List X → List ℕ
parted form [] = []
parted form (item ∷ items) = form item ++ further form items

-- a list of the values that a form writes for each item (RFC 8259, section 5)
abbrev pub json_list : {X : Type 0} → (X → List ℕ) → List X → List ℕ
json_list form items = codes "[" ++ parted form items ++ codes "]"

-- a member: a name that has nothing to escape, and the JSON of its value (RFC 8259, section 4)
abbrev pub member : List ℕ × List ℕ → List ℕ
member pair = codes "\"" ++ pair.0 ++ codes "\":" ++ pair.1

-- the beginning of an object, up to the end of these members
abbrev pub opened : List (List ℕ × List ℕ) → List ℕ
opened members = codes "{" ++ parted member members

-- an object of these members, in this order (RFC 8259, section 4)
abbrev pub json_object : List (List ℕ × List ℕ) → List ℕ
json_object members = codes "{" ++ parted member members ++ codes "}"
