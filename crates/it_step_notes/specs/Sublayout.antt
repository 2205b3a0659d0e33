-- When a step of a layout and a key id lead down to a sublayout (in-toto 1.0 sections 4.4 and 5.2).
use Rattle.std.specs.Prelude.{◌≡◌, ℕ, List, Contains}
use Rattle.it_dsse.specs.Panel.{Panel}
use Rattle.it_docs.specs.PayloadType.{in_toto_type}
use Rattle.it_docs.specs.declared.layout.Layout.{Layout}
use Rattle.it_docs.specs.declared.step.Step.{Step}
use Rattle.it_chain.specs.ClaimedFiles.{IsClaimed}
use Rattle.it_chain.specs.Contents.{Contents, files_of}
use Rattle.it_chain.specs.declared.bundle.File.{File}
use Rattle.it_step_notes.specs.SignedLayout.{IsSignedLayout}
use Rattle.it_step_notes.specs.Signing.{IsSignedUnder}
use Rattle.it_step_notes.specs.declared.signed_layout.SignedLayout.{SignedLayout}

module _ (panel : Panel) (layout : Layout) where
  -- the bytes are an envelope of the in-toto type that is signed under an id, and its payload is a
  -- layout
  pub record HoldsLayout (id bytes : List ℕ) (below : SignedLayout) : Type 0 where
    pub is_layout : IsSignedLayout bytes below
    pub type_is : is_layout.envelope.payload_type ≡ in_toto_type
    pub signed : IsSignedUnder panel layout is_layout.envelope id

  -- a file that is claimed for the step holds such a layout
  pub record IsSublayoutIn (step : Step) (id : List ℕ) (file : File) (below : SignedLayout)
      : Type 0 where
    pub claimed : IsClaimed step.name file.name
    pub holds : HoldsLayout id file.bytes below

  module _ (bundle : Contents) where
    -- some file of the bundle does, and the step lists the id
    pub record IsSublayoutOf (step : Step) (id : List ℕ) (below : SignedLayout) : Type 0 where
      pub listed : Contains step.pubkeys id
      pub file : File
      pub stands : Contains (files_of bundle) file
      pub is_in : IsSublayoutIn step id file below

    -- the same for the step of this name
    pub record LeadsDown (name id : List ℕ) (below : SignedLayout) : Type 0 where
      pub step : Step
      pub stands : Contains layout.steps step
      pub name_is : step.name ≡ name
      pub is_sublayout : IsSublayoutOf step id below
