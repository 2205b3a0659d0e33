-- Which files hold sublayouts. Nothing here is trusted.
use Rattle.std.specs.Prelude.{◌≡◌, ℕ, List}
use Rattle.it_dsse.specs.Panel.{Panel}
use Rattle.it_dsse.specs.Signed.{IsSigner}
use Rattle.it_dsse.specs.declared.envelope.Envelope.{Envelope}
use Rattle.it_dsse.specs.declared.key_object.KeyObject.{KeyObject}
use Rattle.it_docs.specs.Layout.{LayoutOf}
use Rattle.it_docs.specs.declared.layout.Layout.{Layout}
use Rattle.it_docs.specs.declared.step.Step.{Step}
use Rattle.it_chain.specs.Candidate.{IsCandidate}
use Rattle.it_chain.specs.ClaimedFiles.{IsClaimed}
use Rattle.it_chain.specs.Contents.{Contents}
use Rattle.it_chain.specs.Sublayouts.{IsSublayout}
use Rattle.it_chain.specs.declared.bundle.File.{File}
use Rattle.it_sublayouts.specs.declared.signed_layout.SignedLayout.{SignedLayout}

-- a file is an envelope of the in-toto type with a layout
pub record IsLayoutFile (file : File) : Type 0 where
  pub envelope : Envelope
  pub layout : Layout
  pub is_candidate : IsCandidate file.bytes envelope
  pub reads : LayoutOf envelope.payload layout

-- a payload reads as this layout
pub record IsRead (payload : List ℕ) (signed : SignedLayout) : Type 0 where
  pub payload_is : signed.payload ≡ payload
  pub reads : LayoutOf payload signed.layout

-- the bytes are an envelope of the in-toto type with this payload, which the object's key under an
-- id signed
pub record HoldsSigned (panel : Panel) (id : List ℕ) (object : KeyObject) (bytes payload : List ℕ)
    : Type 0 where
  pub envelope : Envelope
  pub is_candidate : IsCandidate bytes envelope
  pub signs : IsSigner panel envelope object id
  pub payload_is : payload ≡ envelope.payload

-- the same in a file that is claimed for a step
pub record IsSignedIn (panel : Panel) (step : Step) (id : List ℕ) (object : KeyObject)
    (file : File) (payload : List ℕ) : Type 0 where
  pub claimed : IsClaimed step.name file.name
  pub holds : HoldsSigned panel id object file.bytes payload

-- a sublayout for a step under a key id, with its payload
pub record IsSignedFor (panel : Panel) (layout : Layout) (bundle : Contents) (step : Step)
    (id : List ℕ) (signed : SignedLayout) : Type 0 where
  pub counts : IsSublayout (IsSigner panel) layout bundle step id signed.layout
  pub payload_is : signed.payload ≡ counts.envelope.payload
