-- What stands for a delivered file (SLSA v1.0, verifying artifacts; one envelope per line is this
-- profile's choice).
use Rattle.std.specs.Prelude.{◌≡◌, ◌+◌, ℕ, List, Some, Contains, slice_get, take}
use Rattle.std.specs.FinMap.{entries}
use Rattle.std.specs.List.{AllZip}
use Rattle.it_digest.specs.Sums.{lines_of}
use Rattle.it_digest.specs.declared.compare.DigestSet.{DigestSet}
use Rattle.it_dsse.specs.Envelope.{EnvelopeOf}
use Rattle.it_dsse.specs.Panel.{Panel}
use Rattle.it_dsse.specs.Signed.{AreThose}
use Rattle.it_dsse.specs.declared.envelope.Envelope.{Envelope}
use Rattle.it_docs.specs.declared.policy.Expectation.{Expectation}
use Rattle.it_docs.specs.declared.statement.Provenance.{Provenance}
use Rattle.it_prov.specs.Best.{IsGreatest, MeetsAtLevel}
use Rattle.it_prov.specs.Fits.{Fits}
use Rattle.it_prov.specs.Meets.{Attests, Meets}
use Rattle.it_json_report.specs.declared.evidence.FileEvidence.{FileEvidence}
use Rattle.it_verify.specs.declared.documents.Documents.{Documents}
use Rattle.it_verify.specs.Provenance.{HasProvenance}
use Rattle.it_verify.specs.declared.inputs.Inputs.{Inputs}
use Rattle.it_vouched.specs.declared.vouched.Vouched.{Vouched}
use Rattle.it_file_evidence.specs.Signer.{signer_among}

-- the line at a place, from 1, is this envelope, which meets an expectation, and no line before it
-- is one that does
pub record IsFirstLine (panel : Panel) (expectation : Expectation) (digests : DigestSet)
    (lines : List (List ℕ)) (place : ℕ) (envelope : Envelope) : Type 0 where
  pub index : ℕ
  pub line : List ℕ
  pub place_is : place ≡ 1 + index
  pub stands : slice_get lines index ≡ Some line
  pub reads : EnvelopeOf line envelope
  pub meets : Meets panel expectation digests envelope
  pub none_before : (earlier : List ℕ) (other : Envelope) → Contains (take index lines) earlier
      → EnvelopeOf earlier other → ¬ Meets panel expectation digests other

-- the first line that meets the expectation which speaks of a file, the builder that its provenance
-- names, the greatest level of a builder with which it meets the expectation in all but the level,
-- and who signed it, as far as lines vouch for an identity of a builder of that id
pub record IsFileEvidence (panel : Panel) (vouched : List Vouched) (lines : List (List ℕ))
    (expectations : List Expectation) (file : List ℕ × DigestSet) (found : FileEvidence) : Type 0
  where
    pub path_is : found.path ≡ file.0
    pub digests_are : found.digests ≡ file.1
    pub expectation : Expectation
    pub envelope : Envelope
    pub provenance : Provenance
    pub fits : Fits expectations file.0 expectation
    pub first : IsFirstLine panel expectation file.1 lines found.line envelope
    pub attests : Attests envelope file.1 provenance
    pub builder_is : found.builder ≡ provenance.builder
    pub level_is : IsGreatest (MeetsAtLevel panel expectation file.1 envelope) (Some found.level)
    pub signer_is : found.signer
        ≡ signer_among vouched expectation.builders provenance.builder envelope

-- the same for each delivered file that has provenance, in the order of the paths' bytes
pub record AreFileEvidence (panel : Panel) (vouched : List Vouched) (inputs : Inputs)
    (documents : Documents) (found : List FileEvidence) : Type 0 where
  pub proven : List (List ℕ × DigestSet)
  pub are_those : AreThose
      (λ file. HasProvenance panel inputs documents.policy.expectations file.0 file.1)
      (entries documents.delivered) proven
  pub each : AllZip
      (IsFileEvidence panel vouched (lines_of inputs.provenance) documents.policy.expectations)
      proven found
