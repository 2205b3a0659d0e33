-- What stands for delivered files, by what envelopes attest. Nothing here is trusted.
use Rattle.std.specs.Prelude.{ℕ, List, Option, Some, None, Contains, option_map}
use Rattle.std.specs.List.{AllZip}
use Rattle.it_digest.specs.declared.compare.DigestSet.{DigestSet}
use Rattle.it_dsse.specs.Panel.{Panel}
use Rattle.it_dsse.specs.Signed.{AreThose}
use Rattle.it_dsse.specs.declared.envelope.Envelope.{Envelope}
use Rattle.it_docs.specs.declared.policy.Expectation.{Expectation}
use Rattle.it_prov.specs.Fits.{Fits}
use Rattle.it_prov.specs.Meets.{Meets}
use Rattle.it_prov.specs.declared.attestations.Attestation.{Attestation}
use Rattle.it_json_report.specs.declared.evidence.FileEvidence.{FileEvidence}
use Rattle.it_vouched.specs.declared.vouched.Vouched.{Vouched}
use Rattle.it_file_evidence.specs.FileEvidence.{IsFileEvidence}

-- the builder that the provenance in an envelope names
abbrev pub builder_named : Option Attestation → Option (List ℕ)
builder_named None = None
builder_named (Some attestation) =
    option_map (λ provenance. provenance.builder) attestation.statement.provenance

module _ (panel : Panel) (expectations : List Expectation) where
  -- one of the envelopes meets the expectation that speaks of a file
  pub record IsProven (envelopes : List Envelope) (file : List ℕ × DigestSet) : Type 0 where
    pub expectation : Expectation
    pub envelope : Envelope
    pub fits : Fits expectations file.0 expectation
    pub stands : Contains envelopes envelope
    pub meets : Meets panel expectation file.1 envelope

  module _ (vouched : List Vouched) (lines : List (List ℕ)) (envelopes : List Envelope) where
    -- what stands for a file where it has provenance, or none
    abbrev pub IsEvidenceOrNone : List ℕ × DigestSet → Option FileEvidence → Type 0
    IsEvidenceOrNone file None = ¬ IsProven envelopes file
    IsEvidenceOrNone file (Some found) =
        IsProven envelopes file × IsFileEvidence panel vouched lines expectations file found

    -- what stands for those files that have provenance
    pub record AreEvidence (files : List (List ℕ × DigestSet)) (found : List FileEvidence)
        : Type 0 where
      pub proven : List (List ℕ × DigestSet)
      pub are_those : AreThose (IsProven envelopes) files proven
      pub each : AllZip (IsFileEvidence panel vouched lines expectations) proven found
