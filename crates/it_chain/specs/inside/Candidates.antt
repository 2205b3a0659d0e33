-- The files that can count for a step, as the functions read them. Nothing here is trusted.
use Rattle.std.specs.Prelude.{◌≡◌, ◌≤◌, ℕ, List, Some, slice_get, Contains}
use Rattle.it_base.specs.Sum.{CostsIfFound, IsSum}
use Rattle.it_dsse.specs.Envelope.{EnvelopeOf}
use Rattle.it_dsse.specs.declared.envelope.Envelope.{Envelope}
use Rattle.it_chain.specs.inside.Asked.{signature_count}
use Rattle.it_chain.specs.inside.ClaimedFiles.{AreClaimed}
use Rattle.it_chain.specs.Cost.{HasSignatures}
use Rattle.it_chain.specs.Body.{as_body}
use Rattle.it_chain.specs.Candidate.{IsCandidate}
use Rattle.it_chain.specs.CountedBodies.{BodyOf}
use Rattle.it_chain.specs.declared.bundle.File.{File}
use Rattle.it_chain.specs.declared.body.Body.{Body as Held}

-- the payload is this body for the step
abbrev pub IsBody : List ℕ → List ℕ → Held → Type 0
IsBody step payload body = BodyOf step payload (as_body body)

-- there is a file at a place, and its bytes are such an envelope
abbrev pub IsCandidateAt : List File → ℕ → Envelope → Type 0
IsCandidateAt files place envelope =
    (file : File) × (slice_get files place ≡ Some file) × IsCandidate file.bytes envelope

-- the envelopes of the in-toto type that are in the files, and no others
pub record AreRead (files : List File) (envelopes : List Envelope) : Type 0 where
  pub each : (envelope : Envelope) → Contains envelopes envelope → (file : File)
      × Contains files file × IsCandidate file.bytes envelope
  pub all : (file : File) (envelope : Envelope) → Contains files file
      → IsCandidate file.bytes envelope → Contains envelopes envelope
  pub most : (n : ℕ) → IsSum (λ file. CostsIfFound (EnvelopeOf file.bytes) HasSignatures) files n
      → signature_count envelopes ≤ n

-- the same for the files that are claimed for a step
abbrev pub AreCandidates : List ℕ → List File → List Envelope → Type 0
AreCandidates step files envelopes =
    (claimed : List File) × AreClaimed step files claimed × AreRead claimed envelopes
