-- How the line of a note on a trusted root begins, and the line on a whole list of it (this
-- project's words).
use Rattle.std.specs.Prelude.{ℕ, List, ◌++◌, codes, decimal}

-- a place of a list, counted from 0, and that what is there is not used
abbrev pub place_text : ℕ → List ℕ
place_text place = codes " " ++ decimal place ++ codes " is not used: "

-- the same behind the name of the list
unfoldable pub front_text : List ℕ → ℕ → List ℕ
front_text list place = codes "the trusted root's " ++ list ++ place_text place

-- nothing of a list is used
abbrev pub none_used_text : List ℕ → List ℕ
none_used_text list =
    codes "the trusted root has no " ++ list
    ++ codes " that are used, so no bundle vouches for anybody\n"
