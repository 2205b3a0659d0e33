-- Bundles in which the same bodies count (specific to this project; no standard covers it).
use Rattle.std.specs.Prelude.{◌≡◌, ℕ, zero, suc, ◌↔◌, List, Contains, ⊤}
use Rattle.it_docs.specs.Layout.{LayoutOf}
use Rattle.it_docs.specs.declared.layout.Layout.{Layout}
use Rattle.it_docs.specs.declared.step.Step.{Step}
use Rattle.it_chain.specs.Chain.{Chain}
use Rattle.it_chain.specs.Contents.{Contents, files_of}
use Rattle.it_chain.specs.CountedBodies.{Setting, Counted}
use Rattle.it_chain.specs.Threshold.{Found}
use Rattle.it_chain.specs.First.{FirstChainFailure}
use Rattle.it_chain.specs.ClaimedFiles.{IsClaimed}
use Rattle.it_chain.specs.Sublayouts.{folder_of}
use Rattle.it_chain.specs.declared.bundle.File.{File}
use Rattle.it_chain.specs.declared.chain.StepResult.{StepResult}
use Rattle.it_chain.specs.declared.refusal.ChainRefusal.{ChainRefusal}

-- how two bundles of one layout compare
abbrev pub Comparing : Type 1
Comparing = Layout → Contents → Contents → Type 0

-- every two bundles
abbrev pub any_two : Comparing
any_two layout bundle other = ⊤

-- the folders of each sublayout that counts in the first bundle compare as given
abbrev pub FoldersCompare : Comparing → Setting → Comparing
FoldersCompare sub setting layout bundle other =
    (step : Step) (id payload : List ℕ) (sublayout : Layout) → Contains layout.steps step
    → Counted setting layout bundle step id payload → LayoutOf payload sublayout
    → sub sublayout (folder_of step.name id bundle) (folder_of step.name id other)

-- what counts in the first bundle counts in the second, and the folders of each sublayout that
-- counts compare as given
pub record LevelWithin (sub : Comparing) (setting : Setting) (layout : Layout)
    (bundle other : Contents) : Type 0 where
  pub bodies : (step : Step) (id payload : List ℕ) → Contains layout.steps step
      → Counted setting layout bundle step id payload → Counted setting layout other step id payload
  pub folders : FoldersCompare sub setting layout bundle other

-- what counts in the first bundle counts in the second, down to a depth of sublayouts
abbrev pub ChainWithin : Setting → ℕ → Comparing
ChainWithin setting zero = LevelWithin any_two setting
ChainWithin setting (suc depth) = LevelWithin (ChainWithin setting depth) setting

-- the same bodies count in both bundles, down to a depth of sublayouts
abbrev pub ChainAlike : Setting → ℕ → Comparing
ChainAlike setting depth layout bundle other =
    ChainWithin setting depth layout bundle other × ChainWithin setting depth layout other bundle

-- how the folders of sublayouts compare in bundles that are alike
abbrev pub deeper_alike : Setting → ℕ → Comparing
deeper_alike setting zero = any_two
deeper_alike setting (suc depth) = ChainAlike setting depth

-- a bundle has a file with the same bytes under a name that is claimed for a step
pub record HasCopy (bundle : Contents) (step : Step) (file : File) : Type 0 where
  pub copy : File
  pub stands : Contains (files_of bundle) copy
  pub claimed : IsClaimed step.name copy.name
  pub same_bytes : copy.bytes ≡ file.bytes

-- each file of the first bundle that counts has such a copy in the second
abbrev pub HasCopies : Setting → Comparing
HasCopies setting layout bundle other =
    (step : Step) (id payload : List ℕ) → Contains layout.steps step
    → (counted : Counted setting layout bundle step id payload) → HasCopy other step counted.file

-- a layout has the same outcome in two settings, each with its bundle: the same records, the same
-- first failure, and in each step the same number of different keys
pub record HasSameOutcome (depth : ℕ) (layout : Layout) (setting : Setting) (bundle : Contents)
    (another : Setting) (other : Contents) : Type 0 where
  pub chain : (results : List StepResult)
      → Chain setting depth layout bundle results ↔ Chain another depth layout other results
  pub first : (refusal : ChainRefusal)
      → FirstChainFailure setting depth layout bundle refusal
      ↔ FirstChainFailure another depth layout other refusal
  pub found : (step : Step) (found : ℕ) → Contains layout.steps step
      → Found setting layout bundle step found ↔ Found another layout other step found
