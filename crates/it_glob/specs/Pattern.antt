-- Path patterns. The in-toto specification 1.0, section 4.3.3, names the files of artifact rules by
-- path patterns. Which texts are patterns and what they match is this profile's choice. A character
-- is a Unicode scalar value.
use Rattle.std.specs.Prelude.{◌≡◌, ℕ, zero, suc, ◌+◌, ◌≤◌, ◌⊎◌, Bool, true, false, List, [], ◌∷◌}
use Rattle.std.specs.Prelude.{◌++◌, Option, ◌==◌, ⊤, if◌then◌else◌, MatchBool, take, drop}
use Rattle.std.specs.Prelude.{position, option_map, unwrap_or, encode_utf8}
use Rattle.std.specs.Str.{byte, chars}
use Rattle.it_glob.specs.declared.item.Item.{Item}
use Rattle.it_glob.specs.declared.item.Item.TheVariants.{Star, Any, OneOf, Exactly}

-- whether a character ends the body of a set
abbrev pub is_close : ℕ → Bool
is_close c = c == byte "]"

-- the length of the body of a set, where cs begins with it: it ends before the first ] that is not
-- its first character
abbrev pub body_len : List ℕ → Option ℕ
body_len cs = option_map (λ n. n + 1) (position is_close (drop 1 cs))

-- whether a set is negated, given the characters after its [, and the characters from its body on:
-- a ! right after the [ is the negation
abbrev pub negation_of : List ℕ → Bool × List ℕ
negation_of [] = (false, [])
negation_of (c ∷ cs) = if c == byte "!" then (true, cs) else (false, c ∷ cs)

-- the set with or without negation whose body begins these characters, and how many characters it
-- takes after its [: the ! if it is negated, the body and the ]
abbrev pub set_of : Bool × List ℕ → Option (Item × ℕ)
set_of (negated, cs) =
    option_map (λ n. (OneOf negated (take n cs), (if negated then n + 2 else n + 1))) (body_len cs)

-- the set whose [ precedes these characters
abbrev pub set_at : List ℕ → Option (Item × ℕ)
set_at cs = set_of (negation_of cs)

-- the item of a character that begins no set
abbrev pub plain_item : ℕ → Item
plain_item c = if c == byte "*" then Star else if c == byte "?" then Any else Exactly c

-- the item that the character c begins, and how many of the characters cs after it that item takes
abbrev pub item_at : ℕ → List ℕ → Item × ℕ
item_at c cs = if c == byte "[" then unwrap_or (set_at cs) (plain_item c, 0) else (plain_item c, 0)

-- the items of the characters that follow the first n
abbrev pub items_after : ℕ → List ℕ → List Item
items_after n [] = []
items_after zero (c ∷ cs) = (item_at c cs).0 ∷ items_after (item_at c cs).1 cs
items_after (suc n) (c ∷ cs) = items_after n cs

-- the items of a pattern's text, read from left to right
unfoldable pub items_of : List ℕ → List Item
items_of text = items_after 0 (chars text)

-- a character is in the body of a set. Where at least three characters are left and the second is
-- -, the first three are a range with both ends included; otherwise the first matches itself
abbrev pub InBody : List ℕ → ℕ → Type 0
InBody [] c = ⊥
InBody (x ∷ []) c = c ≡ x
InBody (x ∷ y ∷ []) c = (c ≡ x) ⊎ (c ≡ y)
InBody (x ∷ y ∷ z ∷ rest) c =
    MatchBool (y == byte "-") (((x ≤ c) × (c ≤ z)) ⊎ InBody rest c)
    ((c ≡ x) ⊎ InBody (y ∷ z ∷ rest) c)

-- an item takes a character. A star tests no character
abbrev pub Takes : Item → ℕ → Type 0
Takes Star c = ⊥
Takes Any c = ⊤
Takes (OneOf negated body) c = MatchBool negated (¬ InBody body c) (InBody body c)
Takes (Exactly d) c = c ≡ d

-- items match characters. A star takes any prefix of them, even the empty one; every other item
-- takes the first
abbrev pub MatchesChars : List Item → List ℕ → Type 0
MatchesChars [] cs = cs ≡ []
MatchesChars (Star ∷ items) cs =
    (front : List ℕ) × (rest : List ℕ) × (cs ≡ front ++ rest) × MatchesChars items rest
MatchesChars (item ∷ items) cs =
    (c : ℕ) × (rest : List ℕ) × (cs ≡ c ∷ rest) × Takes item c × MatchesChars items rest

-- items match a whole text
unfoldable pub Matches : List Item → List ℕ → Type 0
Matches items text = MatchesChars items (chars text)

-- how many items are not stars
abbrev pub plain_count : List Item → ℕ
plain_count [] = 0
plain_count (Star ∷ items) = plain_count items
plain_count (item ∷ items) = plain_count items + 1

-- the text of the items before the first that is not `Exactly`
abbrev pub front_of : List Item → List ℕ
front_of (Exactly c ∷ items) = encode_utf8 c ++ front_of items
front_of items = []

-- a text begins with another
abbrev pub BeginsWith : List ℕ → List ℕ → Type 0
BeginsWith text front = (rest : List ℕ) × (text ≡ front ++ rest)
