-- What is said of findings on key objects that are null (this project's words).
use Rattle.std.specs.Prelude.{ℕ, List, codes}
use Rattle.it_findings.specs.declared.null_key.KeyList.{KeyList}
use Rattle.it_findings.specs.declared.null_key.KeyList.TheVariants.{OfBuilder, OfLayout, Owners}
use Rattle.it_findings.specs.declared.null_key.NullKey.{NullKey}
use Rattle.it_check.specs.Pieces.{told_form}

-- what comes of it
abbrev pub null_end : KeyList → List ℕ
null_end Owners = codes ", so that no signature of this owner is needed"
null_end (OfBuilder expectation builder) = codes ", so that it counts as missing"
null_end OfLayout = codes ", so that it counts as missing"

abbrev pub null_key_sentence : NullKey → List ℕ
null_key_sentence key =
    told_form (codes "null stands for the key object of ") key.id (null_end key.list)
