-- What is found in the sublayouts of a delivery that is accepted (this project's choice).
use Rattle.std.specs.List.{AllZip}
use Rattle.std.specs.Prelude.{◌≡◌, List, []}
use Rattle.it_dsse.specs.Panel.{Panel}
use Rattle.it_sublayouts.specs.Counted.{AreCounted}
use Rattle.it_sublayouts.specs.declared.counted.CountedSublayout.{CountedSublayout}
use Rattle.it_verify.specs.Documents.{setting_of}
use Rattle.it_verify.specs.declared.documents.Documents.{Documents}
use Rattle.it_verify.specs.declared.inputs.Inputs.{Inputs}
use Rattle.it_strict.specs.Counting.{LayoutCounting}
use Rattle.it_strict.specs.declared.below.FoundBelow.{FoundBelow}

-- what is found in a sublayout, as far as it counts where its steps have its records
pub record IsFoundBelow (sublayout : CountedSublayout) (found : FoundBelow) : Type 0 where
  pub at_is : found.at ≡ sublayout.at
  pub findings : LayoutCounting sublayout.payload sublayout.layout sublayout.steps found.findings

-- the same of each sublayout that counts, once over each folder, at every depth
pub record AreFoundBelow (panel : Panel) (inputs : Inputs) (documents : Documents)
    (found : List FoundBelow) : Type 0 where
  pub sublayouts : List CountedSublayout
  pub are_counted : AreCounted (setting_of panel documents) inputs.depth [] documents.layout
      inputs.links sublayouts
  pub each : AllZip IsFoundBelow sublayouts found
