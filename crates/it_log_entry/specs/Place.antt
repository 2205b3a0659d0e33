-- How far an entry comes: the number of conditions before the one that it misses.
use Rattle.std.specs.Prelude.{ℕ, ◌+◌}
use Rattle.it_log_entry.specs.declared.body_shortfall.BodyShortfall.{BodyShortfall}
use Rattle.it_log_entry.specs.declared.body_shortfall.BodyShortfall.TheVariants as parts
use Rattle.it_log_entry.specs.declared.note_shortfall.NoteShortfall.{NoteShortfall}
use Rattle.it_log_entry.specs.declared.note_shortfall.NoteShortfall.TheVariants as checkpoints
use Rattle.it_log_entry.specs.declared.shortfall.EntryShortfall.{EntryShortfall}
use Rattle.it_log_entry.specs.declared.shortfall.EntryShortfall.TheVariants as shortfalls

-- the parts of a body in their order
abbrev pub body_place : BodyShortfall → ℕ
body_place parts.Form = 0
body_place parts.Payload = 1
body_place parts.PayloadType = 2
body_place parts.Signature = 3
body_place parts.Certificate = 4

-- what a checkpoint is asked for, in its order
abbrev pub checkpoint_place : NoteShortfall → ℕ
checkpoint_place checkpoints.Form = 0
checkpoint_place checkpoints.Root = 1
checkpoint_place checkpoints.Signature = 2

-- all conditions in their order
abbrev pub place_of : EntryShortfall → ℕ
place_of shortfalls.Log = 0
place_of shortfalls.Time = 1
place_of shortfalls.Kind = 2
place_of (shortfalls.Body part) = 3 + body_place part
place_of shortfalls.NoProof = 8
place_of shortfalls.Inclusion = 9
place_of (shortfalls.Checkpoint missed) = 10 + checkpoint_place missed
place_of shortfalls.Promise = 13
