-- Whether enough keys signed for a step, as the functions judge it. Nothing here is trusted.
use Rattle.std.specs.Prelude.{◌≡◌, ◌⊎◌, ◌<◌, ◌≤◌, ℕ, List, ◌∷◌, Result, Ok, Err, map, ⊤}
use Rattle.std.specs.Set.{distinct_count}
use Rattle.it_docs.specs.declared.step.Step.{Step}
use Rattle.it_chain.specs.Threshold.{same_key}
use Rattle.it_chain.specs.First.{here}
use Rattle.it_chain.specs.declared.chain.StepResult.{StepResult}
use Rattle.it_chain.specs.declared.record.IdRecord.{IdRecord}
use Rattle.it_chain.specs.declared.refusal.ChainError.{ChainError}
use Rattle.it_chain.specs.declared.refusal.ChainError.TheVariants.{Refused, OutOfMemory}
use Rattle.it_chain.specs.declared.refusal.ChainFault.TheVariants.{Threshold}
use Rattle.it_chain.specs.declared.refusal.ChainRefusal.{ChainRefusal}
use Rattle.it_chain.specs.inside.Agreement.{IsAgreed}

-- the number of different keys of the records
abbrev pub keys_of : List IdRecord → ℕ
keys_of records = distinct_count same_key (map (λ r. r.key) records)

abbrev pub IsFew : Step → ℕ → ChainRefusal → Type 0
IsFew step found refusal =
    (found < step.threshold) × (refusal ≡ here (Threshold step.name found step.threshold))

-- enough keys, and at least one record
abbrev pub IsEnough : Step → List IdRecord → Result StepResult ChainError → Type 0
IsEnough step records result =
    (first : IdRecord) × (others : List IdRecord) × (records ≡ first ∷ others)
    × (step.threshold ≤ keys_of records) × IsAgreed step (keys_of records) first others result

abbrev pub IsJudged : Step → List IdRecord → Result StepResult ChainError → Type 0
IsJudged step records (Ok result) = IsEnough step records (Ok result)
IsJudged step records (Err (Refused refusal)) =
    IsFew step (keys_of records) refusal ⊎ IsEnough step records (Err (Refused refusal))
IsJudged step records (Err OutOfMemory) = ⊤
