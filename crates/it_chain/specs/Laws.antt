-- What is proved about these definitions.
use Rattle.std.specs.Prelude.{◌≡◌, ◌⊎◌, ℕ, suc, ◌≤◌, List, MatchResult}
use Rattle.std.specs.List.{AllZip}
use Rattle.it_docs.specs.declared.layout.Layout.{Layout}
use Rattle.it_docs.specs.declared.step.Step.{Step}
use Rattle.it_chain.specs.Alike.{ChainAlike, HasSameOutcome, FoldersCompare, HasCopies, ChainWithin}
use Rattle.it_chain.specs.Alike.{deeper_alike}
use Rattle.it_chain.specs.AlikePanels.{PanelsAlikeOver}
use Rattle.it_chain.specs.Answer.{answer}
use Rattle.it_chain.specs.Chain.{Chain}
use Rattle.it_chain.specs.Contents.{Contents}
use Rattle.it_chain.specs.Cost.{ChainCosts}
use Rattle.it_chain.specs.CountedBodies.{Setting}
use Rattle.it_chain.specs.Threshold.{Found}
use Rattle.it_chain.specs.Fewest.{ChainFewest}
use Rattle.it_chain.specs.First.{FirstChainFailure}
use Rattle.it_chain.specs.Lower.{Lower, AnswersRight}
use Rattle.it_chain.specs.declared.chain.StepResult.{StepResult}
use Rattle.it_chain.specs.declared.refusal.ChainFault.{ChainFault}
use Rattle.it_chain.specs.declared.refusal.ChainFault.TheVariants.{Expired, TwoPayloads, TooDeep}
use Rattle.it_chain.specs.declared.refusal.ChainFault.TheVariants.{Threshold, Disagree}
use Rattle.it_chain.specs.declared.refusal.ChainFault.TheVariants.{InspectionInSublayout}
use Rattle.it_chain.specs.declared.refusal.ChainFault.TheVariants.{RuleFailed}
use Rattle.it_chain.specs.declared.refusal.ChainRefusal.{ChainRefusal}

-- the number of different keys is unique
abbrev pub FoundIsOne : Type 0
FoundIsOne =
    (setting : Setting) (layout : Layout) (bundle : Contents) (step : Step) (m n : ℕ)
    → Found setting layout bundle step m → Found setting layout bundle step n → m ≡ n

-- a layout holds for a bundle with at most one list of records
abbrev pub ChainIsOne : Type 0
ChainIsOne =
    (setting : Setting) (depth : ℕ) (layout : Layout) (bundle : Contents) (m n : List StepResult)
    → Chain setting depth layout bundle m → Chain setting depth layout bundle n → m ≡ n

-- a layout that holds for a bundle has no failure over it
abbrev pub ChainOrFirst : Type 0
ChainOrFirst =
    (setting : Setting) (depth : ℕ) (layout : Layout) (bundle : Contents) (m : List StepResult)
    (refusal : ChainRefusal)
    → Chain setting depth layout bundle m → ¬ FirstChainFailure setting depth layout bundle refusal

-- a layout has at most one first failure over a bundle
abbrev pub FirstIsOne : Type 0
FirstIsOne =
    (setting : Setting) (depth : ℕ) (layout : Layout) (bundle : Contents) (a b : ChainRefusal)
    → FirstChainFailure setting depth layout bundle a
    → FirstChainFailure setting depth layout bundle b → a ≡ b

-- a layout that holds for a bundle holds for it with the same records at every greater depth
abbrev pub ChainGoesDeeper : Type 0
ChainGoesDeeper =
    (setting : Setting) (depth : ℕ) (layout : Layout) (bundle : Contents) (m : List StepResult)
    → Chain setting depth layout bundle m → Chain setting (suc depth) layout bundle m

-- a layout has the same outcome over bundles that are alike
abbrev pub AlikeChains : Type 0
AlikeChains =
    (setting : Setting) (depth : ℕ) (layout : Layout) (bundle other : Contents)
    → ChainAlike setting depth layout bundle other
    → HasSameOutcome depth layout setting bundle setting other

-- a layout has the same outcome with panels that are alike on its keys, and on those of the
-- sublayouts that count
abbrev pub AlikePanelChains : Type 0
AlikePanelChains =
    (setting another : Setting) (depth : ℕ) (layout : Layout) (bundle : Contents)
    → setting.moment ≡ another.moment
    → PanelsAlikeOver setting.panel another.panel depth layout bundle
    → HasSameOutcome depth layout setting bundle another bundle

-- bundles that have copies of each other's files that count are alike, whatever else is in them, if
-- the folders of sublayouts are alike
abbrev pub NoiseIsAlike : Type 0
NoiseIsAlike =
    (setting : Setting) (depth : ℕ) (layout : Layout) (bundle other : Contents)
    → HasCopies setting layout bundle other → HasCopies setting layout other bundle
    → FoldersCompare (deeper_alike setting depth) setting layout bundle other
    → ChainAlike setting depth layout bundle other

-- the same record of a step, with no more different keys
pub record IsNoMore (result before : StepResult) : Type 0 where
  pub name : result.name ≡ before.name
  pub materials : result.materials ≡ before.materials
  pub products : result.products ≡ before.products
  pub keys : result.keys ≤ before.keys

-- the fault is that too few different keys signed
abbrev pub IsThresholdFault : ChainFault → Type 0
IsThresholdFault (Threshold step found needed) = Unit {0}
IsThresholdFault Expired = ⊥
IsThresholdFault (TwoPayloads step id) = ⊥
IsThresholdFault TooDeep = ⊥
IsThresholdFault (Disagree step id) = ⊥
IsThresholdFault InspectionInSublayout = ⊥
IsThresholdFault (RuleFailed item side index path) = ⊥

-- where a layout holds for a bundle, over another it has the same records with no more different
-- keys, or fails at a threshold
pub record ChainOnlyWithholds (setting : Setting) (depth : ℕ) (layout : Layout)
    (other bundle : Contents) : Type 0 where
  pub chain : (results before : List StepResult) → Chain setting depth layout other results
      → Chain setting depth layout bundle before → AllZip IsNoMore results before
  pub first : (refusal : ChainRefusal) (before : List StepResult)
      → FirstChainFailure setting depth layout other refusal
      → Chain setting depth layout bundle before → IsThresholdFault refusal.fault

-- removing what counts can only withhold
abbrev pub WithheldChains : Type 0
WithheldChains =
    (setting : Setting) (depth : ℕ) (layout : Layout) (other bundle : Contents)
    → ChainWithin setting depth layout other bundle
    → ChainOnlyWithholds setting depth layout other bundle

-- if what it asks of the crates below answers correctly, the deciding function gives the records
-- with which a layout holds for a bundle, or its first failure
abbrev pub AnswerIsRight : Type 0
AnswerIsRight =
    (lower : Lower) → AnswersRight lower
    → (setting : Setting) (depth : ℕ) (layout : Layout) (bundle : Contents)
    → MatchResult (answer lower setting depth layout bundle) (Chain setting depth layout bundle)
    (FirstChainFailure setting depth layout bundle)

-- functions exist that answer correctly for the crates below
abbrev pub SomeAnswersRight : Type 0
SomeAnswersRight = (lower : Lower) × AnswersRight lower

-- a layout over a bundle holds with some records, or has a first failure
abbrev pub HoldsOrFails : Type 0
HoldsOrFails =
    (setting : Setting) (depth : ℕ) (layout : Layout) (bundle : Contents)
    → ((m : List StepResult) × Chain setting depth layout bundle m)
    ⊎ ((refusal : ChainRefusal) × FirstChainFailure setting depth layout bundle refusal)

-- a layout over a bundle costs some number of checks
abbrev pub HasCost : Type 0
HasCost =
    (setting : Setting) (depth : ℕ) (layout : Layout) (bundle : Contents) → (n : ℕ)
    × ChainCosts setting depth layout bundle n

-- and no other
abbrev pub CostIsOne : Type 0
CostIsOne =
    (setting : Setting) (depth : ℕ) (layout : Layout) (bundle : Contents) (m n : ℕ)
    → ChainCosts setting depth layout bundle m → ChainCosts setting depth layout bundle n → m ≡ n

-- there is a least number of checks that a layout over a bundle takes
abbrev pub HasFewest : Type 0
HasFewest =
    (setting : Setting) (depth : ℕ) (layout : Layout) (bundle : Contents) → (n : ℕ)
    × ChainFewest setting depth layout bundle n

-- and no other
abbrev pub FewestIsOne : Type 0
FewestIsOne =
    (setting : Setting) (depth : ℕ) (layout : Layout) (bundle : Contents) (m n : ℕ)
    → ChainFewest setting depth layout bundle m → ChainFewest setting depth layout bundle n → m ≡ n
