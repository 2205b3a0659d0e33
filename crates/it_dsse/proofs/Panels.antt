-- Which check a panel has at the place of a key.
use Rattle.std.proofs.Common.{◌≡◌, ℕ, ◌<◌, List, length, map, get_or, refl, slice_get, Some}
use Rattle.std.proofs.lemmas.Option.{slice_get-map, slice_get_read}
use Rattle.it_dsse.specs.Check.{Check}

-- the check at a place is that of the list
pub check_at_place : {X : Type 0} (f : X → Check) (xs : List X) (place : ℕ) (x : X)
    → place < length xs → x ≡ get_or xs place x → slice_get (map f xs) place ≡ Some (f x)
check_at_place f xs place x below here =
    rw (slice_get-map f xs place, slice_get_read xs (length xs) place x refl below here) refl
