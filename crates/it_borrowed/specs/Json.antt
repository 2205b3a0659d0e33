-- The tree that a text is, in which each object has all of its members in their order, those of one
-- name too (JSON as serde_json reads it, before it keeps the last member of each name and looks at
-- how large the numbers are).
use Rattle.std.specs.Prelude.{◌≡◌, ℕ, List, Some, option_and_then}
use Rattle.json.specs.Lex.{tokens}
use Rattle.json.specs.Json.{Json, if_last, value}
use Rattle.serde_json.specs.Read.{max_depth}

abbrev pub IsJson : List ℕ → Json → Type 0
IsJson text j = option_and_then (λ p. if_last p.0 p.1) (value max_depth (tokens text)) ≡ Some j
