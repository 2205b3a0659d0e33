-- Lists that are searched from their front.
use Rattle.std.proofs.Common.{◌≡◌, ℕ, List, Some, get_or, Contains, ◌∙◌}
use Rattle.std.specs.List.{slice_get}
use Rattle.std.proofs.lemmas.Option.{get_or_from_slice_get, slice_get_within}

pub stands_in : {X : Type 0} (xs : List X) (i : ℕ) (x : X) → slice_get xs i ≡ Some x → Contains xs x
stands_in xs i x stands =
    (i, slice_get_within xs i x stands, get_or_from_slice_get xs i x x stands)

pub read_at : {X : Type 0} (xs : List X) (i : ℕ) (x y : X) → y ≡ get_or xs i y
    → slice_get xs i ≡ Some x → y ≡ x
read_at xs i x y here stands = here ∙ get_or_from_slice_get xs i x y stands
