-- Parameters that are given as JSON.
use Rattle.std.proofs.Common.{ℕ, List, Some, refl}
use Rattle.serde_json.specs.Data.{Data, object}
use Rattle.it_base.specs.Document.{IsDocument}
use Rattle.it_base.specs.TreeOf.{fields_of}
use Rattle.it_making.specs.inside.StatementParts.{CanBeParameters, GivesParameters}

-- an object that is not too deep gives parameters
pub gives_parameters : (bytes : List ℕ) (d : Data) → IsDocument bytes d → CanBeParameters d
    → GivesParameters (Some bytes) d
gives_parameters bytes (object ms) is h = (fields_of ms, (is, refl, h.1))
gives_parameters bytes d is h = absurd (let no = h.0 in cc)
