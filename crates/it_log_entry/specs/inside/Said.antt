-- What the parts of a body say, and which is the first that is not about a signature. Nothing here
-- is trusted.
use Rattle.std.specs.Prelude.{option_map}
use Rattle.it_borrowed.specs.Tree.{as_data}
use Rattle.it_log_entry.specs.BodyMisses.{SaysCertificate, SaysPayload, SaysSignature, SaysType}
use Rattle.it_log_entry.specs.BodyParts.{Parts}
use Rattle.it_log_entry.specs.declared.body_parts.BodyParts.{BodyParts}
use Rattle.it_log_entry.specs.declared.body_shortfall.BodyShortfall.{BodyShortfall}
use Rattle.it_log_entry.specs.declared.body_shortfall.BodyShortfall.TheVariants as parts
use Rattle.it_log_entry.specs.declared.kind.EntryKind.{EntryKind}
use Rattle.it_log_entry.specs.declared.logged.Logged.{Logged}

-- what parts that were read show
abbrev pub said_by : BodyParts → Parts
said_by found = record {
  hash = as_data found.hash.now;
  envelope = option_map (λ value. as_data value.now) found.envelope;
  signature = as_data found.signature.now;
}

-- all of them are about this signature
pub record AllSay (kind : EntryKind) (logged : Logged) (said : Parts) : Type 0 where
  pub payload : SaysPayload logged said
  pub payload_type : SaysType logged said
  pub signature : SaysSignature kind logged said
  pub certificate : SaysCertificate kind logged said

-- the first that is not
abbrev pub SaidMisses : EntryKind → Logged → Parts → BodyShortfall → Type 0
SaidMisses kind logged said parts.Form = ⊥
SaidMisses kind logged said parts.Payload = ¬ SaysPayload logged said
SaidMisses kind logged said parts.PayloadType = SaysPayload logged said × ¬ SaysType logged said
SaidMisses kind logged said parts.Signature =
    SaysPayload logged said × SaysType logged said × ¬ SaysSignature kind logged said
SaidMisses kind logged said parts.Certificate = SaysPayload logged said × SaysType logged said
    × SaysSignature kind logged said × ¬ SaysCertificate kind logged said
