-- The signatures of a functionary on a file (in-toto 1.0 section 5.2, verifying the final product).
use Rattle.std.specs.Prelude.{◌≡◌, ℕ, List, []}
use Rattle.it_dsse.specs.Panel.{Panel}
use Rattle.it_dsse.specs.declared.envelope.Envelope.{Envelope}
use Rattle.it_dsse.specs.declared.key_object.KeyObject.{KeyObject}
use Rattle.it_chain.specs.Candidate.{IsCandidate}
use Rattle.it_chain.specs.ClaimedFiles.{IsClaimed}
use Rattle.it_chain.specs.CountedBodies.{Body, BodyOf}
use Rattle.it_chain.specs.declared.bundle.File.{File}
use Rattle.it_nonces.specs.EnvelopeUses.{EnvelopeUses}
use Rattle.it_nonces.specs.declared.nonce_use.NonceUse.{NonceUse}
use Rattle.it_nonces.specs.declared.signer.Role.TheVariants.{Functionary}
use Rattle.it_nonces.specs.declared.signer.Signer.{Signer}

-- who signs with the key under an id for a step of the layout at a place
abbrev pub functionary : List (List ℕ × List ℕ) → List ℕ → List ℕ → Signer
functionary at step id = record { role = Functionary at step; id = id }

-- a file is claimed for a step, and is this envelope, of the in-toto type
pub record IsClaimedAs (step : List ℕ) (file : File) (envelope : Envelope) : Type 0 where
  pub claimed : IsClaimed step file.name
  pub is_candidate : IsCandidate file.bytes envelope

-- and its payload is a body for the step
pub record HoldsFor (step : List ℕ) (file : File) (envelope : Envelope) : Type 0 where
  pub claimed_as : IsClaimedAs step file envelope
  pub body : Body
  pub reads : BodyOf step envelope.payload body

-- the signatures of somebody on the envelope in such a file, and none on any other file
pub record FileUses (panel : Panel) (step : List ℕ) (signer : Signer) (object : KeyObject)
    (file : File) (uses : List NonceUse) : Type 0 where
  pub some : (envelope : Envelope) → HoldsFor step file envelope
      → EnvelopeUses panel envelope signer object uses
  pub none : ((envelope : Envelope) → ¬ HoldsFor step file envelope) → uses ≡ []
