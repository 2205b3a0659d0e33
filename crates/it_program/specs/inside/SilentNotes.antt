-- The lines of a provenance that are bundles and vouch for nobody, and what is noted of them.
use Rattle.std.specs.Prelude.{◌≡◌, ℕ, List, [], Option, Some, None, Result, Ok, Err}
use Rattle.it_digest.specs.Sums.{lines_of}
use Rattle.it_disk.specs.Reading.{Holdings, HoldsIfGiven, HoldsRoot}
use Rattle.it_outcome.specs.declared.outcome.Status.{Status}
use Rattle.it_outcome.specs.declared.outcome.Status.TheVariants.{Good, Refused}
use Rattle.it_trust_root.specs.declared.root.TrustedRoot.{TrustedRoot}
use Rattle.it_vouched.specs.Silent.{AreSilent}
use Rattle.it_vouched.specs.SilentText.{silent_notes}
use Rattle.it_vouched.specs.declared.silent_line.SilentLine.{SilentLine}
use Rattle.it_words.specs.declared.words.verify_words.VerifyWords.{VerifyWords}
use Rattle.it_program.specs.declared.stop.Stop.{Stop}

-- those of what was read, by the trusted root at the path; none where no trusted root is given
abbrev pub AreSilentBy : Holdings → Option (List ℕ) → (read : List ℕ) → List SilentLine → Type 0
AreSilentBy disk None read silent = silent ≡ []
AreSilentBy disk (Some path) read silent =
    (root : TrustedRoot) × HoldsRoot disk path root × AreSilent root (lines_of read) silent

-- those of the provenance that the words name
pub record AreSilentIn (disk : Holdings) (words : VerifyWords) (silent : List SilentLine)
    : Type 0 where
  pub read : List ℕ
  pub holds : HoldsIfGiven disk.file words.provenance read
  pub are_silent : AreSilentBy disk words.trusted_root read silent

-- what is noted of them, by the outcome of the verification: nothing, unless it refused
abbrev pub notes_after : Result Status Stop → List SilentLine → List ℕ
notes_after (Ok Good) silent = []
notes_after (Ok Refused) silent = silent_notes silent
notes_after (Err stop) silent = []
