-- What is looked at in a file for a link.
use Rattle.std.specs.Prelude.{◌≡◌, ℕ, List, Contains}
use Rattle.it_dsse.specs.Panel.{Panel}
use Rattle.it_dsse.specs.Signed.{IsSigner}
use Rattle.it_dsse.specs.declared.envelope.Envelope.{Envelope}
use Rattle.it_docs.specs.Link.{LinkOf}
use Rattle.it_chain.specs.Candidate.{IsCandidate}
use Rattle.it_chain.specs.ClaimedFiles.{IsClaimed}
use Rattle.it_chain.specs.declared.bundle.File.{File}
use Rattle.it_chain.specs.declared.signers.Signer.{Signer}
use Rattle.it_rule_notes.specs.declared.link_file.LinkFile.{LinkFile}

-- a file is claimed for a step, and is an envelope, signed with the key of one of the signers, of
-- this link with the step's name
pub record IsHeldLink (panel : Panel) (step : List ℕ) (signers : List Signer) (file : File)
    (held : LinkFile) : Type 0 where
  pub envelope : Envelope
  pub signer : Signer
  pub id_is : held.id ≡ signer.id.now
  pub name_is : held.name ≡ file.name
  pub claimed : IsClaimed step file.name
  pub is_envelope : IsCandidate file.bytes envelope
  pub is_one : Contains signers signer
  pub is_signer : IsSigner panel envelope signer.object.now signer.id.now
  pub is_link : LinkOf envelope.payload held.link
  pub of_step : held.link.name ≡ step
