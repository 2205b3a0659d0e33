-- What is written for bytes that are not an envelope (this profile's choice of the text).
use Rattle.std.specs.Prelude.{◌≡◌, ℕ, List, []}
use Rattle.it_dsse.specs.Envelope.{EnvelopeOf}
use Rattle.it_dsse.specs.declared.envelope.Envelope.{Envelope}
use Rattle.it_report.specs.Report.{report_of}
use Rattle.it_report.specs.declared.refusal.Fault.TheVariants.{BadEnvelope}
use Rattle.it_report.specs.declared.refusal.Refusal.{Refusal}
use Rattle.it_report.specs.declared.verdict.Verdict.TheVariants.{Refused as refused_for}
use Rattle.it_outcome.specs.declared.outcome.Status.{Status}
use Rattle.it_outcome.specs.declared.outcome.Status.TheVariants.{Refused}

-- the refusal of bytes that are not an envelope
abbrev pub no_envelope : Refusal
no_envelope = record { at = []; fault = BadEnvelope }

-- the text refuses bytes that are not an envelope
pub record RefusesBytes (bytes text : List ℕ) (status : Status) : Type 0 where
  pub none : (envelope : Envelope) → ¬ EnvelopeOf bytes envelope
  pub text_is : text ≡ report_of (refused_for no_envelope)
  pub status_is : status ≡ Refused
