-- What an extension has between its identifier and its value. Nothing here is trusted.
use Rattle.std.specs.Prelude.{ℕ, Bool, true, false, List, [], ◌∷◌}
use Rattle.it_der.specs.Element.{wrap}

abbrev pub critical_bytes : Bool → List ℕ
critical_bytes true = wrap 1 (255 ∷ [])
critical_bytes false = []
