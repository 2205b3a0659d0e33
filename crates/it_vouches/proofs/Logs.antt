-- What an entry misses with the logs of a trusted root.
use Rattle.std.proofs.Common.{◌≡◌, Bool, sym, ◌∙◌}
use Rattle.it_log_entry.specs.declared.entry.LogEntry.{LogEntry}
use Rattle.it_log_entry.specs.declared.logged.Logged.{Logged}
use Rattle.it_log_entry.specs.declared.shortfall.EntryShortfall.{EntryShortfall}
use Rattle.it_log_entry.proofs.Shortfalls.{not_vouching}
use Rattle.it_trust_root.specs.declared.root_log.RootLog.{RootLog}
use Rattle.it_trust_root.specs.declared.root_log.RootLog.TheVariants.{Usable, PassedOver}
use Rattle.it_vouches.specs.EntryMissed.{MissesWith}
use Rattle.it_vouches.specs.Logged.{VouchesBy}
use Rattle.it_vouches.proofs.OneEntry.{one_entry_missed}

-- a log with which a condition is missed does not vouch
pub none_by : (needs : Bool) (entry : LogEntry) (logged : Logged) (log : RootLog) (s : EntryShortfall) → MissesWith needs entry logged log s
    → VouchesBy needs entry logged log → ⊥
none_by needs entry logged (Usable log) s misses by = not_vouching log needs entry logged s misses by
none_by needs entry logged (PassedOver reason) s misses by = by

-- with a log, at most one condition is the first
pub one_with : (needs : Bool) (entry : LogEntry) (logged : Logged) (log : RootLog) (s t : EntryShortfall) → MissesWith needs entry logged log s
    → MissesWith needs entry logged log t → s ≡ t
one_with needs entry logged (Usable log) s t one two = one_entry_missed log needs entry logged s t one two
one_with needs entry logged (PassedOver reason) s t one two = one ∙ sym two
