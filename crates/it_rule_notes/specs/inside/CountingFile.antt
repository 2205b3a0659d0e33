-- What is looked at in a file.
use Rattle.std.specs.Prelude.{◌≡◌, ℕ, List, Some, Contains}
use Rattle.std.specs.FinMap.{get}
use Rattle.it_dsse.specs.Panel.{Panel}
use Rattle.it_dsse.specs.Signed.{IsSigner}
use Rattle.it_dsse.specs.declared.envelope.Envelope.{Envelope}
use Rattle.it_docs.specs.declared.layout.Layout.{Layout}
use Rattle.it_docs.specs.declared.step.Step.{Step}
use Rattle.it_chain.specs.Candidate.{IsCandidate}
use Rattle.it_chain.specs.ClaimedFiles.{IsClaimed}
use Rattle.it_chain.specs.CountedBodies.{Body, BodyOf}
use Rattle.it_chain.specs.declared.bundle.File.{File}
use Rattle.it_chain.specs.declared.signers.Signer.{Signer}
use Rattle.it_rule_notes.specs.declared.counting_file.CountingFile.{CountingFile}

-- the bytes are some body for a step
pub record HasBody (step bytes : List ℕ) : Type 0 where
  pub body : Body
  pub reads : BodyOf step bytes body

-- a step lists a key id, and the layout has the key object for it
pub record IsListed (layout : Layout) (step : Step) (signer : Signer) : Type 0 where
  pub listed : Contains step.pubkeys signer.id.now
  pub known : get layout.keys signer.id.now ≡ Some signer.object.now

-- a file is claimed for a step, and is an envelope, signed with the key, of a body for the step
pub record IsSigned (panel : Panel) (step : List ℕ) (signer : Signer) (file : File)
    (found : CountingFile) : Type 0 where
  pub envelope : Envelope
  pub name_is : found.name ≡ file.name
  pub claimed : IsClaimed step file.name
  pub is_envelope : IsCandidate file.bytes envelope
  pub payload_is : envelope.payload ≡ found.payload
  pub is_signer : IsSigner panel envelope signer.object.now signer.id.now
  pub has_body : HasBody step found.payload
