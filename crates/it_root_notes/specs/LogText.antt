-- What is said of the logs of a trusted root (this project's words).
use Rattle.std.specs.Prelude.{ℕ, List, [], ◌++◌, Bool, true, false, ◌==◌, if◌then◌else◌}
use Rattle.std.specs.Prelude.{codes, decimal}
use Rattle.std.specs.List.{enumerate_from, flat_map, list_any}
use Rattle.it_report.specs.Name.{cut_form}
use Rattle.it_trust_root.specs.declared.root.TrustedRoot.{TrustedRoot}
use Rattle.it_trust_root.specs.declared.root_log.RootLog.{RootLog}
use Rattle.it_trust_root.specs.declared.root_log.RootLog.TheVariants.{Usable, PassedOver}
use Rattle.it_trust_root.specs.declared.root_log.Unusable.{Unusable}
use Rattle.it_trust_root.specs.declared.root_log.Unusable.TheVariants.{HashAlgorithm, KeyDetails}
use Rattle.it_trust_root.specs.declared.root_log.Unusable.TheVariants.{IdLength}
use Rattle.it_root_notes.specs.Front.{front_text, none_used_text}

-- how many bytes
abbrev pub bytes_text : ℕ → List ℕ
bytes_text count = if count == 1 then codes "1 byte" else decimal count ++ codes " bytes"

-- why a log is not used
abbrev pub reason_text : Unusable → List ℕ
reason_text (HashAlgorithm name) = codes "its hashAlgorithm is " ++ cut_form name
reason_text (KeyDetails name) = codes "its keyDetails is " ++ cut_form name
reason_text (IdLength count) = codes "its keyId has " ++ bytes_text count

-- the line of a note on a log that is not used
unfoldable pub unused_text : List ℕ → ℕ → Unusable → List ℕ
unused_text list place reason = front_text list place ++ reason_text reason ++ codes "\n"

-- the same of any log with its place, of which there is no note where it is used
abbrev pub log_text : List ℕ → ℕ × RootLog → List ℕ
log_text list (place, Usable log) = []
log_text list (place, PassedOver reason) = unused_text list place reason

-- the lines on the logs of a list, in their order
abbrev pub log_lines : List ℕ → List RootLog → List ℕ
log_lines list logs = flat_map (log_text list) (enumerate_from 0 logs)

-- a log is used
abbrev pub is_used : RootLog → Bool
is_used (Usable log) = true
is_used (PassedOver reason) = false

-- the notes on a list of logs
abbrev pub list_notes : List ℕ → List RootLog → List ℕ
list_notes list logs =
    log_lines list logs ++ (if list_any is_used logs then [] else none_used_text list)

-- the notes on the logs of a trusted root: those of entries, and then those of certificates
abbrev pub log_notes : TrustedRoot → List ℕ
log_notes root =
    list_notes (codes "tlogs") root.logs ++ list_notes (codes "ctlogs") root.certificate_logs
