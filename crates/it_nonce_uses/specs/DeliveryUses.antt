-- The signatures that count for a delivery.
use Rattle.std.specs.Prelude.{◌≡◌, List, [], ◌++◌}
use Rattle.std.specs.FinMap.{entries}
use Rattle.it_dsse.specs.Panel.{Panel}
use Rattle.it_findings.specs.Joined.{JoinedEach}
use Rattle.it_chain.specs.Contents.{Contents}
use Rattle.it_sublayouts.specs.declared.counted.CountedSublayout.{CountedSublayout}
use Rattle.it_verify.specs.declared.documents.Documents.{Documents}
use Rattle.it_nonces.specs.declared.nonce_use.NonceUse.{NonceUse}
use Rattle.it_nonce_uses.specs.LayoutUses.{LayoutUses, SublayoutUses}
use Rattle.it_nonce_uses.specs.OwnerUses.{OwnerUses}

-- those of the policy's owners on the layout's envelope, those for the steps of the layout, and
-- those for the steps of these sublayouts
pub record DeliveryUses (panel : Panel) (documents : Documents) (links : Contents)
    (sublayouts : List CountedSublayout) (uses : List NonceUse) : Type 0 where
  pub of_owners : List NonceUse
  pub of_layout : List NonceUse
  pub of_sublayouts : List NonceUse
  pub owners : JoinedEach (OwnerUses panel documents.envelope) (entries documents.policy.owners)
      of_owners
  pub layout : LayoutUses panel [] documents.layout links of_layout
  pub below : JoinedEach (SublayoutUses panel links) sublayouts of_sublayouts
  pub uses_are : uses ≡ of_owners ++ of_layout ++ of_sublayouts
