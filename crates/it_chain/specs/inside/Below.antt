-- The results of the sublayouts of a level. Nothing here is trusted.
use Rattle.std.specs.Prelude.{ℕ, zero, suc}
use Rattle.it_docs.specs.declared.layout.Layout.{Layout}
use Rattle.it_chain.specs.Chain.{holds_below}
use Rattle.it_chain.specs.Contents.{Contents}
use Rattle.it_chain.specs.CountedBodies.{Setting}
use Rattle.it_chain.specs.First.{Failing, FirstChainFailure, ChainPlace, StandsInChain, too_deep}
use Rattle.it_chain.specs.First.{uninspected}
use Rattle.it_chain.specs.declared.refusal.ChainRefusal.{ChainRefusal}

abbrev pub fails_below : Setting → ℕ → Failing
fails_below setting zero = too_deep
fails_below setting (suc depth) = uninspected (FirstChainFailure setting depth)

-- the failures at the places of a level
abbrev pub StandsAt : Setting → ℕ → Layout → Contents → ChainPlace → ChainRefusal → Type 0
StandsAt setting depth =
    StandsInChain (holds_below setting depth) (fails_below setting depth) setting
