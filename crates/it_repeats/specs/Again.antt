-- Which names of a list come again (a word of this project).
use Rattle.std.specs.Prelude.{ℕ, List, [], ◌∷◌, Bool}
use Rattle.std.specs.Set.{is_member}
use Rattle.std.specs.Str.{bytes_eq}

-- whether a name is one of these
abbrev pub is_among : List (List ℕ) → List ℕ → Bool
is_among names name = is_member bytes_eq names name

-- of each name, whether it comes again later
abbrev pub again_in : List (List ℕ) → List Bool
again_in [] = []
again_in (name ∷ names) = is_among names name ∷ again_in names
