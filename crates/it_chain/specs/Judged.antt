-- The records of a layout's steps, and what the layout comes to by its rules over them (in-toto 1.0
-- section 5.2, verifying the final product).
use Rattle.std.specs.Prelude.{ℕ, Option, None, Some, Result, Ok, Err}
use Rattle.std.specs.List.{AllZip}
use Rattle.it_chain.specs.Chain.{holds_below}
use Rattle.it_chain.specs.CountedBodies.{Setting}
use Rattle.it_chain.specs.Level.{Holding, StepHolds}
use Rattle.it_chain.specs.declared.chain.Chain.{Chain as ChainOf}
use Rattle.it_chain.specs.declared.judged.JudgedChain.{JudgedChain}
use Rattle.it_chain.specs.declared.refusal.ChainError.{ChainError}
use Rattle.it_chain.specs.declared.refusal.ChainError.TheVariants.{Refused}
use Rattle.it_chain.specs.declared.refusal.ChainRefusal.{ChainRefusal}

-- the records with which a layout's steps hold for a bundle, whether or not its rules hold over
-- them, where sublayouts may be nested so deep
abbrev pub AreStepRecords : Setting → ℕ → Holding
AreStepRecords setting depth layout bundle results =
    AllZip (StepHolds (holds_below setting depth) setting layout bundle) layout.steps results

abbrev pub settled_by : ChainOf → Option ChainRefusal → Result ChainOf ChainError
settled_by chain None = Ok chain
settled_by chain (Some refusal) = Err (Refused refusal)

-- the records where the rules hold over them, and else the refusal
abbrev pub settled : JudgedChain → Result ChainOf ChainError
settled judged = settled_by judged.chain judged.failed

-- the same of an answer
abbrev pub settles : Result JudgedChain ChainError → Result ChainOf ChainError
settles (Ok judged) = settled judged
settles (Err error) = Err error
