-- How many validity checks a layout that holds for a bundle asks for at least (specific to this
-- project; no standard covers it).
use Rattle.std.specs.Prelude.{◌≡◌, ℕ, zero, suc, ◌+◌}
use Rattle.it_base.specs.Sum.{IsSum}
use Rattle.it_docs.specs.declared.layout.Layout.{Layout}
use Rattle.it_docs.specs.declared.step.Step.{Step}
use Rattle.it_chain.specs.Contents.{Contents}
use Rattle.it_chain.specs.Cost.{Costing, SublayoutsCost, no_cost}
use Rattle.it_chain.specs.CountedBodies.{Setting}
use Rattle.it_chain.specs.Threshold.{Found}

-- a step takes one check for each different key that signed what counts for it, plus what its
-- sublayouts take
pub record StepFewest (sub : Costing) (setting : Setting) (layout : Layout) (bundle : Contents)
    (step : Step) (n : ℕ) : Type 0 where
  pub keys : ℕ
  pub sublayouts : ℕ
  pub of_keys : Found setting layout bundle step keys
  pub of_sublayouts : SublayoutsCost sub setting layout bundle step sublayouts
  pub sum : n ≡ keys + sublayouts

abbrev pub LevelFewest : Costing → Setting → Costing
LevelFewest sub setting layout bundle = IsSum (StepFewest sub setting layout bundle) layout.steps

-- what a layout over a bundle takes at least, down to a depth of sublayouts
abbrev pub ChainFewest : Setting → ℕ → Costing
ChainFewest setting zero = LevelFewest no_cost setting
ChainFewest setting (suc depth) = LevelFewest (ChainFewest setting depth) setting

-- what the sublayouts of a layout take at least, where these may be nested so deep
abbrev pub fewest_below : Setting → ℕ → Costing
fewest_below setting zero = no_cost
fewest_below setting (suc depth) = ChainFewest setting depth
