-- What is said of findings on keys with more than one holder (this project's words).
use Rattle.std.specs.Prelude.{ℕ, List, ◌++◌, codes, decimal}
use Rattle.it_findings.specs.declared.shared_key.Holder.{Holder}
use Rattle.it_findings.specs.declared.shared_key.Holder.TheVariants.{Builder, Owner}
use Rattle.it_findings.specs.declared.shared_key.SharedKey.{SharedKey}
use Rattle.it_check.specs.Pieces.{told_form}
use Rattle.it_part_notes.specs.SumLine.{numbered_form}

-- who has a key
unfoldable pub holder_form : Holder → List ℕ
holder_form (Owner id) = told_form (codes "owner ") id (codes "")
holder_form (Builder id level) =
    told_form (codes "builder ") id (codes " of level ") ++ decimal level

-- who else has it
unfoldable pub other_form : Holder → List ℕ
other_form (Owner id) = told_form (codes " and owner ") id (codes " have the same key")
other_form (Builder id level) =
    told_form (codes " and builder ") id (codes " of level ")
    ++ numbered_form (codes "") level (codes " have the same key")

unfoldable pub shared_key_sentence : SharedKey → List ℕ
shared_key_sentence shared = holder_form shared.first ++ other_form shared.holder
