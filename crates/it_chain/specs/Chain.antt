-- When a layout holds for a bundle, down to a depth of sublayouts (in-toto 1.0 section 5.2,
-- verifying the final product, with its recursion into sublayouts; the bound is this profile's
-- choice).
use Rattle.std.specs.Prelude.{ℕ, zero, suc}
use Rattle.it_chain.specs.CountedBodies.{Setting}
use Rattle.it_chain.specs.Level.{Holding, LevelHolds}

-- no layout holds
abbrev pub none_holds : Holding
none_holds layout bundle results = ⊥

-- a layout holds for a bundle with these records: at depth 0 without sublayouts, and at each
-- greater depth with sublayouts that hold in the same sense at one depth less
abbrev pub Chain : Setting → ℕ → Holding
Chain setting zero = LevelHolds none_holds setting
Chain setting (suc depth) = LevelHolds (Chain setting depth) setting

-- the results of the sublayouts of a layout, where these may be nested so deep
abbrev pub holds_below : Setting → ℕ → Holding
holds_below setting zero = none_holds
holds_below setting (suc depth) = Chain setting depth
