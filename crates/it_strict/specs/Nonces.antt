-- Signatures of different keys with one nonce, where a delivery is accepted (this project's
-- choice).
use Rattle.std.specs.Prelude.{◌≡◌, List, []}
use Rattle.it_dsse.specs.Panel.{Panel}
use Rattle.it_nonce_uses.specs.DeliveryUses.{DeliveryUses}
use Rattle.it_nonces.specs.SharedNonces.{shared_nonces}
use Rattle.it_nonces.specs.declared.nonce_use.NonceUse.{NonceUse}
use Rattle.it_nonces.specs.declared.shared.SharedNonce.{SharedNonce}
use Rattle.it_sublayouts.specs.Counted.{AreCounted}
use Rattle.it_sublayouts.specs.declared.counted.CountedSublayout.{CountedSublayout}
use Rattle.it_verify.specs.Documents.{setting_of}
use Rattle.it_verify.specs.declared.documents.Documents.{Documents}
use Rattle.it_verify.specs.declared.inputs.Inputs.{Inputs}

-- these are the signatures by ECDSA over P-256 that count: those of the owners on the layout, and
-- those of functionaries on what is claimed for the steps of the layout and of the sublayouts that
-- count
pub record AreUsesIn (panel : Panel) (inputs : Inputs) (documents : Documents)
    (uses : List NonceUse) : Type 0 where
  pub sublayouts : List CountedSublayout
  pub are_counted : AreCounted (setting_of panel documents) inputs.depth [] documents.layout
      inputs.links sublayouts
  pub are_uses : DeliveryUses panel documents inputs.links sublayouts uses

-- these are those of them that have the number r of an earlier one by a different key
pub record AreSharedIn (panel : Panel) (inputs : Inputs) (documents : Documents)
    (found : List SharedNonce) : Type 0 where
  pub uses : List NonceUse
  pub are_uses : AreUsesIn panel inputs documents uses
  pub found_are : found ≡ shared_nonces uses
