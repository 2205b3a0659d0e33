-- What is noted of a trusted root: which of its logs are passed over and, where a bundle vouches
-- for nobody, which of its authorities cannot be used.
use Rattle.std.specs.Prelude.{◌≡◌, ℕ, List, [], ◌∷◌, ◌++◌, Option, Some, None}
use Rattle.it_disk.specs.Reading.{Holdings, HoldsRoot}
use Rattle.it_root_notes.specs.AuthorityText.{AreAuthorityNotes}
use Rattle.it_root_notes.specs.LogText.{log_notes}
use Rattle.it_trust_root.specs.declared.root.TrustedRoot.{TrustedRoot}
use Rattle.it_vouched.specs.declared.silent_line.SilentLine.{SilentLine}

-- that of the authorities, by the lines that are bundles and vouch for nobody
abbrev pub NotesAuthorities : TrustedRoot → List SilentLine → (text : List ℕ) → Type 0
NotesAuthorities root [] text = text ≡ []
NotesAuthorities root (one ∷ others) text = AreAuthorityNotes root text

-- that of a trusted root
pub record NotesWhole (root : TrustedRoot) (silent : List SilentLine) (text : List ℕ) : Type 0 where
  pub authorities : List ℕ
  pub of_authorities : NotesAuthorities root silent authorities
  pub text_is : text ≡ log_notes root ++ authorities

-- that of the trusted root at the path; nothing where none is given
abbrev pub NotesRoot : Holdings → Option (List ℕ) → List SilentLine → (text : List ℕ) → Type 0
NotesRoot disk None silent text = text ≡ []
NotesRoot disk (Some path) silent text =
    (root : TrustedRoot) × HoldsRoot disk path root × NotesWhole root silent text
