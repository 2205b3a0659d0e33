-- When an entry vouches for a signature.
use Rattle.std.specs.Prelude.{◌≡◌, ℕ, ◌*◌, Bool, false, pos, List, MatchOption}
use Rattle.it_merkle.specs.Proof.{Leads}
use Rattle.it_merkle.specs.Tree.{leaf_hash}
use Rattle.it_p256.specs.Key.{Key}
use Rattle.it_log.specs.Window.{LiesIn}
use Rattle.it_log.specs.declared.log.Log.{Log}
use Rattle.it_log_entry.specs.Agreement.{BodyAgrees}
use Rattle.it_log_entry.specs.Checkpoint.{IsSignedCheckpoint}
use Rattle.it_log_entry.specs.Stamp.{IsPromised}
use Rattle.it_log_entry.specs.declared.entry.LogEntry.{LogEntry}
use Rattle.it_log_entry.specs.declared.inclusion_proof.InclusionProof.{InclusionProof}
use Rattle.it_log_entry.specs.declared.logged.Logged.{Logged}

-- a proof leads from the body to its root, and the log signed a checkpoint of that root
pub record ProofHolds (key : Key) (body : List ℕ) (proof : InclusionProof) : Type 0 where
  pub leads : Leads (leaf_hash body) proof.index proof.size proof.path proof.root
  pub checkpoint : IsSignedCheckpoint key proof.checkpoint proof.size proof.root

-- an entry of this log is about this signature, and the log says, over its own signature, that it
-- was logged at the entry's time, while the log is trusted; and the entry's proof holds. Where a
-- proof is needed, it has one
pub record EntryVouches (log : Log) (needs_proof : Bool) (entry : LogEntry) (logged : Logged)
    : Type 0 where
  pub id_is : entry.log_id ≡ log.id
  pub counts : LiesIn log.window (pos (1_000_000_000 * entry.time))
  pub agrees : BodyAgrees entry.kind entry.body logged
  pub included : MatchOption entry.proof (needs_proof ≡ false)
      (λ proof. ProofHolds log.key entry.body proof)
  pub promised : IsPromised log.key entry
