-- Sublayouts that count by what two relations say of who signed.
use Rattle.std.proofs.Common.{◌≡◌, ℕ, List, Some}
use Rattle.std.specs.FinMap.{get}
use Rattle.it_dsse.specs.declared.envelope.Envelope.{Envelope}
use Rattle.it_dsse.specs.declared.key_object.KeyObject.{KeyObject}
use Rattle.it_docs.specs.declared.layout.Layout.{Layout}
use Rattle.it_docs.specs.declared.step.Step.{Step}
use Rattle.it_chain.specs.Contents.{Contents}
use Rattle.it_chain.specs.Sublayouts.{IsSublayout, Signing}

-- what counts by one relation counts by another that holds where the first does
pub sublayout_as : (Signs Also : Signing) (layout : Layout) (bundle : Contents) (step : Step)
    (id : List ℕ) (sublayout : Layout)
    → ((envelope : Envelope) (object : KeyObject) → get layout.keys id ≡ Some object
    → Signs envelope object id → Also envelope object id)
    → IsSublayout Signs layout bundle step id sublayout
    → IsSublayout Also layout bundle step id sublayout
sublayout_as Signs Also layout bundle step id sublayout also is = record {
  file = is.file;
  envelope = is.envelope;
  object = is.object;
  is_step = is.is_step;
  stands = is.stands;
  claimed = is.claimed;
  is_envelope = is.is_envelope;
  type_is = is.type_is;
  listed = is.listed;
  known = is.known;
  signed = also is.envelope is.object is.known is.signed;
  is_layout = is.is_layout;
}
