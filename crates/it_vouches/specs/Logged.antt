-- The entries of a bundle, by the logs of a trusted root.
use Rattle.std.specs.Prelude.{◌≡◌, ℕ, Bool, List}
use Rattle.it_dsse.specs.declared.envelope.Envelope.{Envelope}
use Rattle.it_log_entry.specs.Vouching.{EntryVouches}
use Rattle.it_log_entry.specs.declared.entry.LogEntry.{LogEntry}
use Rattle.it_log_entry.specs.declared.logged.Logged.{Logged}
use Rattle.it_trust_root.specs.declared.root_log.RootLog.{RootLog}
use Rattle.it_trust_root.specs.declared.root_log.RootLog.TheVariants.{Usable, PassedOver}

-- what is logged is this signature of the envelope, made with this certificate
pub record IsAbout (envelope : Envelope) (signature certificate : List ℕ) (logged : Logged)
    : Type 0 where
  pub payload : logged.payload.now ≡ envelope.payload
  pub payload_type : logged.payload_type.now ≡ envelope.payload_type
  pub signature_is : logged.signature.now ≡ signature
  pub certificate_is : logged.certificate.now ≡ certificate

-- a log of a trusted root vouches by an entry; one that is passed over vouches for nothing
abbrev pub VouchesBy : Bool → LogEntry → Logged → RootLog → Type 0
VouchesBy needs_proof entry logged (Usable log) = EntryVouches log needs_proof entry logged
VouchesBy needs_proof entry logged (PassedOver reason) = ⊥
