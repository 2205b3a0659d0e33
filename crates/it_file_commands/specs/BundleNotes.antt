-- What is noted of a bundle that vouches for nobody (this project's words).
use Rattle.std.specs.Prelude.{◌≡◌, ℕ, List, [], ◌∷◌, ◌++◌, Option, codes}
use Rattle.std.specs.List.{flat_map}
use Rattle.it_base.specs.Writing.{AppendsBeginning}
use Rattle.it_outcome.specs.declared.outcome.Status.{Status}
use Rattle.it_outcome.specs.declared.outcome.Status.TheVariants.{Good, Refused}
use Rattle.it_trust_root.specs.declared.root.TrustedRoot.{TrustedRoot}
use Rattle.it_vouched.specs.Silent.{AreSilent}
use Rattle.it_vouched.specs.declared.silent_line.SilentLine.{SilentLine}
use Rattle.it_vouches.specs.Phrases.{phrase_of}
use Rattle.it_words.specs.declared.words.signed_words.SignedBy.{SignedBy}
use Rattle.it_words.specs.declared.words.signed_words.SignedBy.TheVariants.{Keys, Ring, Trusted}
use Rattle.it_words.specs.declared.words.signed_words.SignedWords.{SignedWords}
use Rattle.it_words.specs.declared.words.signed_words.TrustedPaths.{TrustedPaths}
use Rattle.it_disk.specs.Reading.{Holdings, HoldsRoot}

-- the line of a note
abbrev pub bundle_note : SilentLine → List ℕ
bundle_note silent =
    codes "envelope: a bundle that vouches for nobody: " ++ phrase_of silent.shortfall ++ codes "\n"

-- what is noted: nothing, unless no id signed
abbrev pub bundle_notes : Status → List SilentLine → List ℕ
bundle_notes Good silent = []
bundle_notes Refused silent = flat_map bundle_note silent

-- signed --trusted-root: what is noted of the file, where by the trusted root it is a bundle that
-- vouches for nobody, or a beginning of that
pub record NotesBundle (disk : Holdings) (paths : TrustedPaths) (file : List ℕ) (status : Status)
    (old new : Option (List ℕ)) : Type 0 where
  pub root : TrustedRoot
  pub holds_root : HoldsRoot disk paths.root root
  pub silent : List SilentLine
  pub are_silent : AreSilent root (file ∷ []) silent
  pub begins : AppendsBeginning old new (bundle_notes status silent)

-- signed: nothing is noted without a trusted root
abbrev pub NotesBy : Holdings → SignedBy → (envelope : List ℕ) → Status
    → (old new : Option (List ℕ)) → Type 0
NotesBy disk (Ring path) envelope status old new = new ≡ old
NotesBy disk (Keys path) envelope status old new = new ≡ old
NotesBy disk (Trusted paths) envelope status old new =
    NotesBundle disk paths envelope status old new

-- signed: what is noted of the envelope
pub record NotesSigners (disk : Holdings) (words : SignedWords) (status : Status)
    (old new : Option (List ℕ)) : Type 0 where
  pub envelope : List ℕ
  pub holds_envelope : disk.file words.envelope envelope
  pub notes : NotesBy disk words.by envelope status old new
