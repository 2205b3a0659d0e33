-- The signatures of functionaries on what is claimed for the steps of a layout (in-toto 1.0
-- sections 4.3.1 and 5.2). Those by each key count: a step counts each different key that signed.
use Rattle.std.specs.Prelude.{ℕ, List, [], ◌∷◌}
use Rattle.it_dsse.specs.Panel.{Panel}
use Rattle.it_dsse.specs.declared.key_object.KeyObject.{KeyObject}
use Rattle.it_docs.specs.declared.layout.Layout.{Layout}
use Rattle.it_docs.specs.declared.step.Step.{Step}
use Rattle.it_findings.specs.Joined.{JoinedEach}
use Rattle.it_chain.specs.Answer.{signers}
use Rattle.it_chain.specs.Contents.{Contents, files_of}
use Rattle.it_chain.specs.Sublayouts.{folder_of}
use Rattle.it_sublayouts.specs.Counted.{Place}
use Rattle.it_sublayouts.specs.declared.counted.CountedSublayout.{CountedSublayout}
use Rattle.it_nonces.specs.declared.nonce_use.NonceUse.{NonceUse}
use Rattle.it_nonce_uses.specs.FileUses.{FileUses, functionary}

-- those by the key under an id of a step, in the order of the files
abbrev pub SignerUses : Panel → List Place → Contents → Step → List ℕ × KeyObject
    → List NonceUse → Type 0
SignerUses panel at bundle step signer uses =
    JoinedEach (FileUses panel step.name (functionary at step.name signer.0) signer.1)
    (files_of bundle) uses

-- those for a step, by each key id that it lists and the layout has, in the order of the ids
abbrev pub StepUses : Panel → List Place → Layout → Contents → Step → List NonceUse → Type 0
StepUses panel at layout bundle step uses =
    JoinedEach (SignerUses panel at bundle step) (signers layout step) uses

-- those for the steps of a layout over a bundle, in its order; the places lead down to the layout
abbrev pub LayoutUses : Panel → List Place → Layout → Contents → List NonceUse → Type 0
LayoutUses panel at layout bundle uses =
    JoinedEach (StepUses panel at layout bundle) layout.steps uses

-- the folder at the end of these places
abbrev pub folder_below : List Place → Contents → Contents
folder_below [] bundle = bundle
folder_below (place ∷ at) bundle = folder_below at (folder_of place.0 place.1 bundle)

-- those for the steps of a sublayout, over its own folder
abbrev pub SublayoutUses : Panel → Contents → CountedSublayout → List NonceUse → Type 0
SublayoutUses panel links sublayout uses =
    LayoutUses panel sublayout.at sublayout.layout (folder_below sublayout.at links) uses
