-- The provenance of the delivered files (SLSA v1.0, verifying artifacts).
use Rattle.std.specs.Prelude.{◌≡◌, ◌⊎◌, ℕ, List, Option, Contains}
use Rattle.it_digest.specs.Sums.{lines_of}
use Rattle.it_digest.specs.declared.compare.DigestSet.{DigestSet}
use Rattle.it_dsse.specs.Envelope.{EnvelopeOf}
use Rattle.it_dsse.specs.Panel.{Panel}
use Rattle.it_dsse.specs.declared.envelope.Envelope.{Envelope}
use Rattle.it_docs.specs.declared.policy.Expectation.{Expectation}
use Rattle.it_prov.specs.Best.{IsBest}
use Rattle.it_prov.specs.Fits.{Fits}
use Rattle.it_prov.specs.Meets.{Meets}
use Rattle.it_report.specs.declared.refusal.Fault.TheVariants.{NoExpectation, NoProvenance}
use Rattle.it_report.specs.declared.refusal.Refusal.{Refusal}
use Rattle.it_verify.specs.Refusals.{whole}
use Rattle.it_verify.specs.declared.inputs.Inputs.{Inputs}

-- a line of the provenance is this envelope (one envelope per line is this profile's choice)
pub record IsProvenanceLine (inputs : Inputs) (envelope : Envelope) : Type 0 where
  pub line : List ℕ
  pub stands : Contains (lines_of inputs.provenance) line
  pub reads : EnvelopeOf line envelope

-- a delivered file has provenance: some line of the provenance is an envelope that meets the
-- expectation that speaks of the file
pub record HasProvenance (panel : Panel) (inputs : Inputs) (expectations : List Expectation)
    (path : List ℕ) (digests : DigestSet) : Type 0 where
  pub expectation : Expectation
  pub envelope : Envelope
  pub fits : Fits expectations path expectation
  pub is_line : IsProvenanceLine inputs envelope
  pub meets : Meets panel expectation digests envelope

-- no expectation speaks of a delivered file, or no line of the provenance meets the one that does,
-- and this is the best level of a builder with which a line meets it in all but the level
abbrev pub FileFails : Panel → Inputs → List Expectation → List ℕ × DigestSet → Refusal → Type 0
FileFails panel inputs expectations (path, digests) refusal =
    (((expectation : Expectation) → ¬ Fits expectations path expectation)
    × (refusal ≡ whole (NoExpectation path)))
    ⊎ ((expectation : Expectation) × (best : Option ℕ) × Fits expectations path expectation
    × ((envelope : Envelope) → IsProvenanceLine inputs envelope
    → ¬ Meets panel expectation digests envelope)
    × IsBest panel expectation digests (IsProvenanceLine inputs) best
    × (refusal ≡ whole (NoProvenance path best)))
