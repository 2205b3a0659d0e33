-- The values of extensions, by their identifiers.
use Rattle.std.specs.Prelude.{ℕ, Option, List, find, option_map}
use Rattle.std.specs.Str.{bytes_eq}
use Rattle.it_certificate.specs.Extension.{Stated}

-- the value of the first extension of this identifier
abbrev pub value_of : List ℕ → List Stated → Option (List ℕ)
value_of id extensions = option_map (λ e. e.value) (find (λ e. bytes_eq e.id id) extensions)
