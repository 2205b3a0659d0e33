-- Which condition on its proof an entry misses.
use Rattle.std.specs.Prelude.{◌≡◌, Bool, true, None, MatchOption}
use Rattle.it_p256.specs.Key.{Key}
use Rattle.it_log_entry.specs.EntryMisses.{LacksCheckpoint, LeadsFrom}
use Rattle.it_log_entry.specs.declared.entry.LogEntry.{LogEntry}
use Rattle.it_log_entry.specs.declared.shortfall.EntryShortfall.{EntryShortfall}
use Rattle.it_log_entry.specs.declared.shortfall.EntryShortfall.TheVariants as shortfalls

abbrev pub ProofMisses : Key → Bool → LogEntry → EntryShortfall → Type 0
ProofMisses key needs_proof entry shortfalls.NoProof =
    (entry.proof ≡ None) × (needs_proof ≡ true)
ProofMisses key needs_proof entry shortfalls.Inclusion =
    MatchOption entry.proof ⊥ (λ proof. ¬ LeadsFrom entry.body proof)
ProofMisses key needs_proof entry (shortfalls.Checkpoint missed) =
    MatchOption entry.proof ⊥ (LacksCheckpoint key entry.body missed)
ProofMisses key needs_proof entry _ = ⊥
