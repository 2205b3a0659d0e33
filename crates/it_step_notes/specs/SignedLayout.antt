-- A layout in its envelope (in-toto 1.0 section 4.3, DSSE v1.0).
use Rattle.std.specs.Prelude.{◌≡◌, ℕ, List}
use Rattle.it_dsse.specs.Envelope.{EnvelopeOf}
use Rattle.it_dsse.specs.declared.envelope.Envelope.{Envelope}
use Rattle.it_docs.specs.Layout.{LayoutOf}
use Rattle.it_step_notes.specs.declared.signed_layout.SignedLayout.{SignedLayout}

-- bytes are an envelope with this layout
pub record IsSignedLayout (bytes : List ℕ) (signed : SignedLayout) : Type 0 where
  pub envelope : Envelope
  pub is_envelope : EnvelopeOf bytes envelope
  pub payload_is : signed.payload ≡ envelope.payload
  pub reads : LayoutOf envelope.payload signed.layout
