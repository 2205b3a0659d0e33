-- Checkpoints (transparency-dev): signed notes about the root of a tree.
use Rattle.std.specs.Prelude.{◌≡◌, ℕ, List, ◌∷◌, Any, decimal, take, drop}
use Rattle.sha2.specs.Sha256.{sha256}
use Rattle.it_base.specs.Base64Text.{base64_encoded}
use Rattle.it_p256.specs.Key.{Key, info_of}
use Rattle.it_p256.specs.Signature.{IsSignature}
use Rattle.it_log_entry.specs.Note.{NoteOf, ended}

-- the lines of a checkpoint of a tree with so many entries and this root: a name of the log, the
-- size, the root, and any others
pub record IsCheckpoint (lines : List (List ℕ)) (size : ℕ) (root : List ℕ) : Type 0 where
  pub origin : List ℕ
  pub others : List (List ℕ)
  pub lines_are : lines ≡ origin ∷ decimal size ∷ base64_encoded root ∷ others

-- a signature of a note begins with the hint about the key, the first bytes of its SHA-256
abbrev pub HasHint : Key → List ℕ → Type 0
HasHint key signature = take 4 signature ≡ take 4 (sha256 (info_of key))

-- a signature of a note is the key's: it begins with the hint about the key, and goes on with the
-- key's signature of the text
pub record IsNoteSignature (key : Key) (text signature : List ℕ) : Type 0 where
  pub hint_is : HasHint key signature
  pub signed : IsSignature key text (drop 4 signature)

-- a note is a checkpoint of this tree, and one of its signatures is the key's
pub record IsSignedCheckpoint (key : Key) (note : List ℕ) (size : ℕ) (root : List ℕ) : Type 0 where
  pub lines : List (List ℕ)
  pub signatures : List (List ℕ)
  pub note_is : NoteOf note lines signatures
  pub checkpoint_is : IsCheckpoint lines size root
  pub signed : Any (IsNoteSignature key (ended lines)) signatures
