-- Which condition the entries of a bundle miss, by the logs of a trusted root.
use Rattle.std.specs.Prelude.{◌≡◌, Bool, List, Contains}
use Rattle.it_bundle.specs.declared.bundle.SigstoreBundle.{SigstoreBundle}
use Rattle.it_bundle.specs.declared.listed_entry.ListedEntry.TheVariants.{Entry}
use Rattle.it_log_entry.specs.EntryMisses.{EntryMisses}
use Rattle.it_log_entry.specs.declared.entry.LogEntry.{LogEntry}
use Rattle.it_log_entry.specs.declared.logged.Logged.{Logged}
use Rattle.it_log_entry.specs.declared.shortfall.EntryShortfall.{EntryShortfall}
use Rattle.it_log_entry.specs.declared.shortfall.EntryShortfall.TheVariants as shortfalls
use Rattle.it_trust_root.specs.declared.root.TrustedRoot.{TrustedRoot}
use Rattle.it_trust_root.specs.declared.root_log.RootLog.{RootLog}
use Rattle.it_trust_root.specs.declared.root_log.RootLog.TheVariants.{Usable, PassedOver}
use Rattle.it_vouches.specs.Claim.{Brought, needs_proof}
use Rattle.it_vouches.specs.Furthest.{IsMissedByOne}
use Rattle.it_vouches.specs.Logged.{IsAbout}

-- an entry misses this condition with a log of a trusted root; one that is passed over is another
-- log than the entry's
abbrev pub MissesWith : Bool → LogEntry → Logged → RootLog → EntryShortfall → Type 0
MissesWith needs_proof entry logged (Usable log) missed =
    EntryMisses log needs_proof entry logged missed
MissesWith needs_proof entry logged (PassedOver reason) missed = missed ≡ shortfalls.Log

-- with one of these logs, or the first condition, that the entry is of one of them
abbrev pub MissesWithOne : List RootLog → Bool → LogEntry → Logged → EntryShortfall → Type 0
MissesWithOne logs needs_proof entry logged missed =
    IsMissedByOne shortfalls.Log (MissesWith needs_proof entry logged) logs missed

-- an entry that the bundle brings misses this condition, with a log of the root
pub record IsMissedByEntry (root : TrustedRoot) (bundle : SigstoreBundle) (brought : Brought)
    (missed : EntryShortfall) : Type 0 where
  pub entry : LogEntry
  pub logged : Logged
  pub is_entry : Contains brought.entries (Entry entry)
  pub about : IsAbout bundle.envelope brought.signature brought.certificate logged
  pub misses : MissesWithOne root.logs (needs_proof bundle.version) entry logged missed
