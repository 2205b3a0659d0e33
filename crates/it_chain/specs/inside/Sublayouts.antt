-- The result of a sublayout, and so of a body. Nothing here is trusted.
use Rattle.std.specs.Prelude.{◌≡◌, ℕ, List, [], Result, Ok, Err, ⊤}
use Rattle.it_docs.specs.declared.layout.Layout.{Layout}
use Rattle.it_rules.specs.Item.{Recorded}
use Rattle.it_chain.specs.Contents.{Contents}
use Rattle.it_chain.specs.CountedBodies.{Body, of_link, of_layout}
use Rattle.it_chain.specs.First.{Failing, under}
use Rattle.it_chain.specs.Level.{Holding, Records}
use Rattle.it_chain.specs.Sublayouts.{folder_of}
use Rattle.it_chain.specs.Summary.{summary}
use Rattle.it_chain.specs.declared.chain.Chain.{Chain as ChainOf}
use Rattle.it_chain.specs.declared.refusal.ChainError.{ChainError}
use Rattle.it_chain.specs.declared.refusal.ChainError.TheVariants.{Refused, OutOfMemory}
use Rattle.it_chain.specs.declared.refusal.ChainRefusal.{ChainRefusal}

abbrev pub SublayoutComes : Holding → Failing → Layout → Contents → Result ChainOf ChainError
    → Type 0
SublayoutComes sub fails layout bundle (Ok chain) =
    (layout.inspections ≡ []) × sub layout bundle chain.steps
SublayoutComes sub fails layout bundle (Err (Refused refusal)) = fails layout bundle refusal
SublayoutComes sub fails layout bundle (Err OutOfMemory) = ⊤

abbrev pub BodyFails : Failing → Contents → List ℕ → List ℕ → Body → ChainRefusal → Type 0
BodyFails fails bundle step id (of_link link) refusal = ⊥
BodyFails fails bundle step id (of_layout layout) refusal =
    (inner : ChainRefusal) × fails layout (folder_of step id bundle) inner
    × (refusal ≡ under step id inner)

abbrev pub BodyComes : Holding → Failing → Contents → List ℕ → List ℕ → Body
    → Result Recorded ChainError → Type 0
BodyComes sub fails bundle step id body (Ok recorded) = Records sub bundle step id body recorded
BodyComes sub fails bundle step id body (Err (Refused refusal)) =
    BodyFails fails bundle step id body refusal
BodyComes sub fails bundle step id body (Err OutOfMemory) = ⊤

-- an error, put under a pair
abbrev pub IsUnder : List ℕ → List ℕ → ChainError → ChainError → Type 0
IsUnder step id (Refused inner) (Refused outer) = outer ≡ under step id inner
IsUnder step id (Refused inner) OutOfMemory = ⊤
IsUnder step id OutOfMemory (Refused outer) = ⊥
IsUnder step id OutOfMemory OutOfMemory = ⊤

-- what a sublayout gives for a pair, or its error
abbrev pub IsSummarized : List ℕ → List ℕ → Result ChainOf ChainError → Result Recorded ChainError
    → Type 0
IsSummarized step id (Ok chain) (Ok recorded) = recorded ≡ summary chain.steps
IsSummarized step id (Ok chain) (Err e) = ⊥
IsSummarized step id (Err e) (Ok recorded) = ⊥
IsSummarized step id (Err inner) (Err outer) = IsUnder step id inner outer
