-- A member that is there and is no text in base64.
use Rattle.std.proofs.Common.{◌≡◌, ℕ, List, Option, Some, None, MatchOption, IsTrue, is_some}
use Rattle.std.proofs.Common.{false, true}
use Rattle.serde_json.specs.Data.{Data}
use Rattle.it_base.specs.Base64Text.{IsBase64}
use Rattle.it_part_notes.specs.Members.{Reads}

pub unfit_value : (found : Option Data) → IsTrue (is_some found)
    → ((bytes : List ℕ) → ¬ MatchOption found ⊥ (λ v. IsBase64 v bytes))
    → MatchOption found ⊥ (λ v. ¬ Reads IsBase64 v)
unfit_value None there none = let no : false ≡ true = there in cc
unfit_value (Some v) there none = λ reads. none reads.0 reads.1
