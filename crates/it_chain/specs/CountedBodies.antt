-- What counts for a step of a layout (in-toto 1.0 section 5.2, verifying the final product), as
-- sets of bodies: file order, repeats and the choice among claimed names do not matter.
use Rattle.std.specs.Prelude.{◌≡◌, ℕ, ℤ, List, Some, Contains}
use Rattle.std.specs.FinMap.{get}
use Rattle.it_dsse.specs.Panel.{KeyNumber, Panel}
use Rattle.it_dsse.specs.Envelope.{EnvelopeOf}
use Rattle.it_dsse.specs.Signed.{Signed}
use Rattle.it_dsse.specs.declared.envelope.Envelope.{Envelope}
use Rattle.it_dsse.specs.declared.key_object.KeyObject.{KeyObject}
use Rattle.it_docs.specs.Layout.{LayoutOf}
use Rattle.it_docs.specs.Link.{LinkOf}
use Rattle.it_docs.specs.PayloadType.{in_toto_type}
use Rattle.it_docs.specs.declared.layout.Layout.{Layout}
use Rattle.it_docs.specs.declared.step.Step.{Step}
use Rattle.it_docs.specs.declared.link.Link.{Link}
use Rattle.it_chain.specs.Contents.{Contents, files_of}
use Rattle.it_chain.specs.ClaimedFiles.{IsClaimed}
use Rattle.it_chain.specs.declared.bundle.File.{File}

-- what a layout is checked with: what the panel answers, and the moment. Both are the same for
-- every sublayout (this profile's choice)
pub record Setting : Type 0 where
  pub panel : Panel
  pub moment : ℤ

-- what the body of an envelope can be for a step
pub data Body : Type 0 where
  of_link : Link → Body
  of_layout : Layout → Body

-- the bytes are this body for a step: a link that has the step's name, or a layout
abbrev pub BodyOf : List ℕ → List ℕ → Body → Type 0
BodyOf step bytes (of_link link) = LinkOf bytes link × (link.name ≡ step)
BodyOf step bytes (of_layout layout) = LayoutOf bytes layout

-- these bytes are a body that counts for a step under a key id: the payload of some file that is
-- claimed for the step and signed by a key that the step lists and the layout has
pub record Counted (setting : Setting) (layout : Layout) (bundle : Contents) (step : Step)
    (id payload : List ℕ) : Type 0 where
  pub file : File
  pub envelope : Envelope
  pub object : KeyObject
  pub key : KeyNumber
  pub body : Body
  pub stands : Contains (files_of bundle) file
  pub claimed : IsClaimed step.name file.name
  pub is_envelope : EnvelopeOf file.bytes envelope
  pub type_is : envelope.payload_type ≡ in_toto_type
  pub payload_is : envelope.payload ≡ payload
  pub listed : Contains step.pubkeys id
  pub known : get layout.keys id ≡ Some object
  pub signed : Signed setting.panel envelope id object key
  pub reads : BodyOf step.name payload body
