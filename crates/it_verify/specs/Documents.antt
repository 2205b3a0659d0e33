-- What the inputs of a verification read as.
use Rattle.std.specs.Prelude.{◌≡◌}
use Rattle.it_digest.specs.Listed.{AreListed}
use Rattle.it_dsse.specs.Envelope.{EnvelopeOf}
use Rattle.it_dsse.specs.Panel.{Panel}
use Rattle.it_docs.specs.Layout.{LayoutOf}
use Rattle.it_docs.specs.Moment.{MomentOf}
use Rattle.it_docs.specs.PayloadType.{in_toto_type}
use Rattle.it_docs.specs.Policy.{PolicyOf}
use Rattle.it_chain.specs.CountedBodies.{Setting}
use Rattle.it_verify.specs.declared.inputs.Inputs.{Inputs}
pub use Rattle.it_verify.specs.declared.documents.Documents.{Documents}

-- the inputs read as these documents: a policy, the delivered files, a moment, and an envelope of
-- the in-toto type (DSSE v1.0) whose payload is a layout (in-toto 1.0 section 4.3)
pub record ReadAs (inputs : Inputs) (documents : Documents) : Type 0 where
  pub policy : PolicyOf inputs.policy documents.policy
  pub delivered : AreListed inputs.sums inputs.sums512 documents.delivered
  pub moment : MomentOf inputs.moment documents.moment
  pub envelope : EnvelopeOf inputs.layout documents.envelope
  pub payload_type : documents.envelope.payload_type ≡ in_toto_type
  pub layout : LayoutOf documents.envelope.payload documents.layout

-- what the layout and its sublayouts are checked with
abbrev pub setting_of : Panel → Documents → Setting
setting_of panel documents = record { panel = panel; moment = documents.moment }
