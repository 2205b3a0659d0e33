-- Whether the records of a step agree, as the functions judge it. Nothing here is trusted.
use Rattle.std.specs.Prelude.{◌≡◌, ◌≢◌, ◌⊎◌, ℕ, List, [], ◌∷◌, Result, Ok, Err, ⊤}
use Rattle.std.specs.List.{AllByRecursion}
use Rattle.it_docs.specs.declared.step.Step.{Step}
use Rattle.it_chain.specs.First.{here}
use Rattle.it_chain.specs.declared.chain.StepResult.{StepResult}
use Rattle.it_chain.specs.declared.record.IdRecord.{IdRecord}
use Rattle.it_chain.specs.declared.refusal.ChainError.{ChainError}
use Rattle.it_chain.specs.declared.refusal.ChainError.TheVariants.{Refused, OutOfMemory}
use Rattle.it_chain.specs.declared.refusal.ChainFault.TheVariants.{Disagree}

-- the id of the first other record that differs from the first record
abbrev pub IsFirstOther : IdRecord → List IdRecord → List ℕ → Type 0
IsFirstOther first [] id = ⊥
IsFirstOther first (q ∷ qs) id =
    ((q.recorded ≢ first.recorded) × (id ≡ q.id))
    ⊎ ((q.recorded ≡ first.recorded) × IsFirstOther first qs id)

-- why records do not agree
abbrev pub IsDisagreed : Step → IdRecord → List IdRecord → ChainError → Type 0
IsDisagreed step first others (Refused refusal) =
    (id : List ℕ) × IsFirstOther first others id × (refusal ≡ here (Disagree step.name id))
IsDisagreed step first others OutOfMemory = ⊤

abbrev pub IsAgreed : Step → ℕ → IdRecord → List IdRecord → Result StepResult ChainError → Type 0
IsAgreed step found first others (Ok result) =
    AllByRecursion (λ r. r.recorded ≡ first.recorded) others
    × (result
    ≡ record {
      name = step.name;
      materials = first.recorded.materials;
      products = first.recorded.products;
      keys = found;
    })
IsAgreed step found first others (Err e) = IsDisagreed step first others e
