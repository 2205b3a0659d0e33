-- Why a text is no checkpoint that a key signed. Nothing here is trusted.
use Rattle.std.specs.Prelude.{ℕ, List}
use Rattle.it_p256.specs.Key.{Key}
use Rattle.it_log_entry.specs.Checkpoint.{IsSignedCheckpoint}
use Rattle.it_log_entry.specs.CheckpointMisses.{CheckpointMisses}
use Rattle.it_log_entry.specs.declared.note_shortfall.NoteShortfall.{NoteShortfall}

-- it is none, and this is why
pub record IsNoCheckpoint (key : Key) (note : List ℕ) (size : ℕ) (root : List ℕ)
    (missed : NoteShortfall) : Type 0 where
  pub not_signed : ¬ IsSignedCheckpoint key note size root
  pub misses : CheckpointMisses note size root missed
