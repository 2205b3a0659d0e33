-- What a text lacks that is no checkpoint of a tree signed by a key: the first of these, in an
-- order that is this profile's choice.
use Rattle.std.specs.Prelude.{◌≡◌, ℕ, ◌^◌, ◌<◌, List, ◌∷◌, decimal}
use Rattle.it_log_entry.specs.Checkpoint.{IsCheckpoint}
use Rattle.it_log_entry.specs.Note.{NoteOf}
use Rattle.it_log_entry.specs.declared.note_shortfall.NoteShortfall.{NoteShortfall}
use Rattle.it_log_entry.specs.declared.note_shortfall.NoteShortfall.TheVariants as missed

-- the text is a size: a number of 64 bits, in decimal
pub record IsSize (text : List ℕ) (n : ℕ) : Type 0 where
  pub digits_are : text ≡ decimal n
  pub small : n < 2 ^ 64

-- the lines of a checkpoint of any tree: a name of the log, a size, a root, and any others
pub record AreTreeLines (lines : List (List ℕ)) : Type 0 where
  pub origin : List ℕ
  pub size_text : List ℕ
  pub root_text : List ℕ
  pub others : List (List ℕ)
  pub lines_are : lines ≡ origin ∷ size_text ∷ root_text ∷ others
  pub size : ℕ
  pub size_is : IsSize size_text size

-- a text is a note with the lines of a checkpoint, of which this is so
pub record NoteSays (note : List ℕ) (Says : List (List ℕ) → Type 0) : Type 0 where
  pub lines : List (List ℕ)
  pub signatures : List (List ℕ)
  pub note_is : NoteOf note lines signatures
  pub tree : AreTreeLines lines
  pub says : Says lines

-- what a text lacks that is no checkpoint of this tree signed by a key: it is a note of no tree, or
-- one of another tree, or only the signature is missing
abbrev pub CheckpointMisses : List ℕ → ℕ → List ℕ → NoteShortfall → Type 0
CheckpointMisses note size root missed.Form = ¬ NoteSays note (λ lines. Unit {0})
CheckpointMisses note size root missed.Root = NoteSays note (λ lines. Unit {0})
    × ¬ NoteSays note (λ lines. IsCheckpoint lines size root)
CheckpointMisses note size root missed.Signature =
    NoteSays note (λ lines. IsCheckpoint lines size root)
