-- How many validity checks a layout over a bundle may ask for (specific to this project; no
-- standard covers it).
use Rattle.std.specs.Prelude.{◌≡◌, ◌≢◌, ◌↔◌, ℕ, zero, suc, ◌+◌, ◌*◌, List, length, AllPairs}
use Rattle.std.specs.Prelude.{Contains}
use Rattle.std.specs.Set.{distinct_count}
use Rattle.std.specs.Str.{bytes_eq}
use Rattle.it_base.specs.Sum.{CostsIfFound, IsSum}
use Rattle.it_dsse.specs.Envelope.{EnvelopeOf}
use Rattle.it_dsse.specs.declared.envelope.Envelope.{Envelope}
use Rattle.it_docs.specs.Layout.{LayoutOf}
use Rattle.it_docs.specs.declared.layout.Layout.{Layout}
use Rattle.it_docs.specs.declared.step.Step.{Step}
use Rattle.it_chain.specs.Contents.{Contents, files_of}
use Rattle.it_chain.specs.CountedBodies.{Setting, Counted}
use Rattle.it_chain.specs.ClaimedFiles.{IsClaimed}
use Rattle.it_chain.specs.Sublayouts.{folder_of}
use Rattle.it_chain.specs.declared.bundle.File.{File}

-- how many signatures an envelope has
abbrev pub HasSignatures : Envelope → ℕ → Type 0
HasSignatures envelope n = n ≡ length envelope.signatures

-- what layouts over bundles cost
abbrev pub Costing : Type 1
Costing = Layout → Contents → ℕ → Type 0

-- the signatures of a file that is claimed for a step and reads as an envelope
abbrev pub FileHas : Step → File → ℕ → Type 0
FileHas step file =
    CostsIfFound
    (λ envelope. IsClaimed step.name file.name × EnvelopeOf file.bytes envelope) HasSignatures

-- these bytes count for a key id and read as a sublayout
pub record IsSublayout (setting : Setting) (layout : Layout) (bundle : Contents) (step : Step)
    (id payload : List ℕ) : Type 0 where
  pub sublayout : Layout
  pub counted : Counted setting layout bundle step id payload
  pub reads : LayoutOf payload sublayout

module _ (sub : Costing) (setting : Setting) (layout : Layout) (bundle : Contents) where
  -- what the sublayouts that count for a step cost, each over its own folder
  pub record SublayoutsCost (step : Step) (n : ℕ) : Type 0 where
    pub bodies : List (List ℕ × List ℕ)
    pub once : AllPairs (λ a b. a ≢ b) bodies
    pub are_those : (id payload : List ℕ)
        → Contains bodies (id, payload) ↔ IsSublayout setting layout bundle step id payload
    pub sum : IsSum
        (λ body. CostsIfFound (LayoutOf body.1)
        (λ sublayout. sub sublayout (folder_of step.name body.0 bundle))) bodies n

  -- a step costs one check per id and signature, plus what its sublayouts cost
  pub record StepCosts (step : Step) (n : ℕ) : Type 0 where
    pub signatures : ℕ
    pub sublayouts : ℕ
    pub of_files : IsSum (FileHas step) (files_of bundle) signatures
    pub of_sublayouts : SublayoutsCost step sublayouts
    pub sum : n ≡ distinct_count bytes_eq step.pubkeys * signatures + sublayouts

abbrev pub LevelCosts : Costing → Setting → Costing
LevelCosts sub setting layout bundle = IsSum (StepCosts sub setting layout bundle) layout.steps

abbrev pub no_cost : Costing
no_cost layout bundle n = n ≡ 0

-- what a layout over a bundle costs, down to a depth of sublayouts
abbrev pub ChainCosts : Setting → ℕ → Costing
ChainCosts setting zero = LevelCosts no_cost setting
ChainCosts setting (suc depth) = LevelCosts (ChainCosts setting depth) setting

-- what the sublayouts of a layout cost, where these may be nested so deep
abbrev pub cost_below : Setting → ℕ → Costing
cost_below setting zero = no_cost
cost_below setting (suc depth) = ChainCosts setting depth
