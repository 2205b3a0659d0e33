-- Which condition an entry misses where a log does not vouch by it: the first that it does not
-- meet, in an order that is this profile's choice. It meets those before.
use Rattle.std.specs.Prelude.{◌≡◌, ℕ, ◌*◌, Bool, true, false, pos, List, None, MatchOption}
use Rattle.it_merkle.specs.Proof.{Leads}
use Rattle.it_merkle.specs.Tree.{leaf_hash}
use Rattle.it_p256.specs.Key.{Key}
use Rattle.it_log.specs.Window.{LiesIn}
use Rattle.it_log.specs.declared.log.Log.{Log}
use Rattle.it_log_entry.specs.Agreement.{BodyAgrees, IsReadKind}
use Rattle.it_log_entry.specs.BodyMisses.{BodyMisses}
use Rattle.it_log_entry.specs.Checkpoint.{IsSignedCheckpoint}
use Rattle.it_log_entry.specs.CheckpointMisses.{CheckpointMisses}
use Rattle.it_log_entry.specs.Stamp.{IsPromised}
use Rattle.it_log_entry.specs.Vouching.{ProofHolds}
use Rattle.it_log_entry.specs.declared.note_shortfall.NoteShortfall.{NoteShortfall}
use Rattle.it_log_entry.specs.declared.entry.LogEntry.{LogEntry}
use Rattle.it_log_entry.specs.declared.inclusion_proof.InclusionProof.{InclusionProof}
use Rattle.it_log_entry.specs.declared.logged.Logged.{Logged}
use Rattle.it_log_entry.specs.declared.shortfall.EntryShortfall.{EntryShortfall}
use Rattle.it_log_entry.specs.declared.shortfall.EntryShortfall.TheVariants as shortfalls

-- it is of this log
abbrev pub IsOf : Log → LogEntry → Type 0
IsOf log entry = entry.log_id ≡ log.id

-- its time lies in the window of the log
abbrev pub IsInTime : Log → LogEntry → Type 0
IsInTime log entry = LiesIn log.window (pos (1_000_000_000 * entry.time))

-- it is of this log, at a time in the window of the log, and about this signature
pub record SpeaksOf (log : Log) (entry : LogEntry) (logged : Logged) : Type 0 where
  pub id_is : IsOf log entry
  pub counts : IsInTime log entry
  pub agrees : BodyAgrees entry.kind entry.body logged

-- its proof holds, or it has none and needs none
abbrev pub IsIncluded : Key → Bool → LogEntry → Type 0
IsIncluded key needs_proof entry =
    MatchOption entry.proof (needs_proof ≡ false) (λ proof. ProofHolds key entry.body proof)

-- a proof leads from a body to its root
abbrev pub LeadsFrom : List ℕ → InclusionProof → Type 0
LeadsFrom body proof = Leads (leaf_hash body) proof.index proof.size proof.path proof.root

-- a proof leads from a body to its root, but the key did not sign a checkpoint of that root, and
-- this is what its checkpoint lacks
pub record LacksCheckpoint (key : Key) (body : List ℕ) (missed : NoteShortfall)
    (proof : InclusionProof) : Type 0 where
  pub leads : LeadsFrom body proof
  pub not_signed : ¬ IsSignedCheckpoint key proof.checkpoint proof.size proof.root
  pub misses : CheckpointMisses proof.checkpoint proof.size proof.root missed

-- the first condition that an entry misses, where proofs are needed or not
abbrev pub EntryMisses : Log → Bool → LogEntry → Logged → EntryShortfall → Type 0
EntryMisses log needs_proof entry logged shortfalls.Log = ¬ IsOf log entry
EntryMisses log needs_proof entry logged shortfalls.Time = IsOf log entry × ¬ IsInTime log entry
EntryMisses log needs_proof entry logged shortfalls.Kind =
    IsOf log entry × IsInTime log entry × ¬ IsReadKind entry.kind
EntryMisses log needs_proof entry logged (shortfalls.Body part) = IsOf log entry
    × IsInTime log entry × IsReadKind entry.kind × BodyMisses entry.kind entry.body logged part
EntryMisses log needs_proof entry logged shortfalls.NoProof =
    SpeaksOf log entry logged × (entry.proof ≡ None) × (needs_proof ≡ true)
EntryMisses log needs_proof entry logged shortfalls.Inclusion =
    SpeaksOf log entry logged × MatchOption entry.proof ⊥ (λ proof. ¬ LeadsFrom entry.body proof)
EntryMisses log needs_proof entry logged (shortfalls.Checkpoint missed) =
    SpeaksOf log entry logged
    × MatchOption entry.proof ⊥ (LacksCheckpoint log.key entry.body missed)
EntryMisses log needs_proof entry logged shortfalls.Promise =
    SpeaksOf log entry logged × IsIncluded log.key needs_proof entry × ¬ IsPromised log.key entry
