-- How far conditions can come.
use Rattle.std.proofs.Common.{◌≤◌, arith}
use Rattle.it_issued.specs.IssueMisses.{issue_place}
use Rattle.it_issued.specs.LogMisses.{log_place}
use Rattle.it_issued.specs.declared.shortfall.IssueShortfall.{IssueShortfall}
use Rattle.it_issued.specs.declared.shortfall.IssueShortfall.TheVariants as issues
use Rattle.it_issued.specs.declared.shortfall.LogShortfall.{LogShortfall}
use Rattle.it_issued.specs.declared.shortfall.LogShortfall.TheVariants as logs
use Rattle.it_log_entry.specs.Place.{place_of}
use Rattle.it_log_entry.specs.declared.body_shortfall.BodyShortfall.TheVariants as parts
use Rattle.it_log_entry.specs.declared.note_shortfall.NoteShortfall.TheVariants as checkpoints
use Rattle.it_log_entry.specs.declared.shortfall.EntryShortfall.{EntryShortfall}
use Rattle.it_log_entry.specs.declared.shortfall.EntryShortfall.TheVariants as entries
use Rattle.it_vouches.specs.IssuerMissed.{issuer_place}
use Rattle.it_vouches.specs.declared.issuer_shortfall.IssuerShortfall.{IssuerShortfall}
use Rattle.it_vouches.specs.declared.issuer_shortfall.IssuerShortfall.TheVariants.{Issue, Log}

pub entry_low : (s : EntryShortfall) → place_of s ≤ 13
entry_low entries.Log = omega arith
entry_low entries.Time = omega arith
entry_low entries.Kind = omega arith
entry_low (entries.Body parts.Form) = omega arith
entry_low (entries.Body parts.Payload) = omega arith
entry_low (entries.Body parts.PayloadType) = omega arith
entry_low (entries.Body parts.Signature) = omega arith
entry_low (entries.Body parts.Certificate) = omega arith
entry_low entries.NoProof = omega arith
entry_low entries.Inclusion = omega arith
entry_low (entries.Checkpoint checkpoints.Form) = omega arith
entry_low (entries.Checkpoint checkpoints.Root) = omega arith
entry_low (entries.Checkpoint checkpoints.Signature) = omega arith
entry_low entries.Promise = omega arith

issue_low : (s : IssueShortfall) → issue_place s ≤ 4
issue_low issues.Name = omega arith
issue_low issues.Window = omega arith
issue_low issues.LeafTime = omega arith
issue_low issues.AuthorityTime = omega arith
issue_low issues.Signature = omega arith

pub log_low : (s : LogShortfall) → log_place s ≤ 4
log_low logs.Missing = omega arith
log_low logs.Form = omega arith
log_low logs.Log = omega arith
log_low logs.Window = omega arith
log_low logs.Signature = omega arith

pub issuer_low : (s : IssuerShortfall) → issuer_place s ≤ 9
issuer_low (Issue s) = let low = issue_low s in omega (arith, low)
issuer_low (Log s) = let low = log_low s in omega (arith, low)
