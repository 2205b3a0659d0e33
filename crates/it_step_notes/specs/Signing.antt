-- Under which key ids of a layout an envelope is signed (in-toto 1.0 section 5.2).
use Rattle.std.specs.Prelude.{◌≡◌, ℕ, List, Some, Any}
use Rattle.std.specs.FinMap.{get}
use Rattle.it_dsse.specs.Panel.{Panel}
use Rattle.it_dsse.specs.Signed.{IsSigner}
use Rattle.it_dsse.specs.declared.envelope.Envelope.{Envelope}
use Rattle.it_dsse.specs.declared.key_object.KeyObject.{KeyObject}
use Rattle.it_docs.specs.declared.layout.Layout.{Layout}

-- the key that the layout has under an id signed the envelope
pub record IsSignedUnder (panel : Panel) (layout : Layout) (envelope : Envelope) (id : List ℕ)
    : Type 0 where
  pub object : KeyObject
  pub known : get layout.keys id ≡ Some object
  pub signs : IsSigner panel envelope object id

-- a signature of the envelope names an id, and the envelope is signed under it
pub record IsNamedSigner (panel : Panel) (layout : Layout) (envelope : Envelope) (id : List ℕ)
    : Type 0 where
  pub named : Any (λ signature. signature.keyid ≡ id) envelope.signatures
  pub signed : IsSignedUnder panel layout envelope id
