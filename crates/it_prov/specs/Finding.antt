-- What the search for the provenance of a delivered file finds (SLSA v1.0, verifying artifacts).
use Rattle.std.specs.Prelude.{◌≡◌, ℕ, List, Option, Some, take, Contains}
use Rattle.std.specs.List.{slice_get}
use Rattle.it_digest.specs.declared.compare.DigestSet.{DigestSet}
use Rattle.it_dsse.specs.Panel.{Panel}
use Rattle.it_dsse.specs.declared.envelope.Envelope.{Envelope}
use Rattle.it_docs.specs.declared.policy.Expectation.{Expectation}
use Rattle.it_prov.specs.Best.{IsBest}
use Rattle.it_prov.specs.Fits.{Fits}
use Rattle.it_prov.specs.Meets.{Meets}

-- no envelope meets an expectation
abbrev pub NoneMeets : Panel → Expectation → DigestSet → List Envelope → Type 0
NoneMeets panel expectation digests envelopes =
    (envelope : Envelope) → Contains envelopes envelope → ¬ Meets panel expectation digests envelope

-- the envelope at an index meets an expectation, and none before it does
pub record IsFirstToMeet (panel : Panel) (expectation : Expectation) (digests : DigestSet)
    (envelopes : List Envelope) (index : ℕ) : Type 0 where
  pub envelope : Envelope
  pub stands : slice_get envelopes index ≡ Some envelope
  pub meets : Meets panel expectation digests envelope
  pub none_before : NoneMeets panel expectation digests (take index envelopes)

-- the least index of an envelope that meets the expectation which fits a path
pub record IsFound (panel : Panel) (expectations : List Expectation) (path : List ℕ)
    (digests : DigestSet) (envelopes : List Envelope) (index : ℕ) : Type 0 where
  pub expectation : Expectation
  pub fits : Fits expectations path expectation
  pub first : IsFirstToMeet panel expectation digests envelopes index

-- no expectation fits a path
abbrev pub NoneFits : List Expectation → List ℕ → Type 0
NoneFits expectations path = (expectation : Expectation) → ¬ Fits expectations path expectation

-- an expectation fits a path, no envelope meets it, and this is the best level with which one
-- meets it in all but the level
pub record IsMissing (panel : Panel) (expectations : List Expectation) (path : List ℕ)
    (digests : DigestSet) (envelopes : List Envelope) (best : Option ℕ) : Type 0 where
  pub expectation : Expectation
  pub fits : Fits expectations path expectation
  pub none_meets : NoneMeets panel expectation digests envelopes
  pub best_is : IsBest panel expectation digests (Contains envelopes) best
