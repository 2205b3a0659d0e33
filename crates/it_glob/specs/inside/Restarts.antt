-- The place from which the matching of a pattern restarts.
use Rattle.std.specs.Prelude.{ℕ, List, [], ◌∷◌, Option, Some, None, option_map}
use Rattle.std.specs.Str.{chars}
use Rattle.it_glob.specs.declared.item.Item.{Item}
use Rattle.it_glob.specs.declared.match_items.Restart.{Restart}

-- items, and the characters that they are tried at
abbrev pub Place : Type 0
Place = List Item × List ℕ

-- the place that a restart borrows
abbrev pub place_of : Option Restart → Option Place
place_of restart = option_map (λ r. (r.items.now, chars r.text.now)) restart

-- the place one character on, if there is a character
abbrev pub next_place : Option Place → Option Place
next_place None = None
next_place (Some (items, [])) = None
next_place (Some (items, c ∷ cs)) = Some (items, cs)
