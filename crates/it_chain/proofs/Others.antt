-- The first record that is not the same as another, and how records are judged.
use Rattle.std.proofs.Common.{◌≡◌, ◌≢◌, ◌<◌, ◌≤◌, ℕ, zero, suc, List, [], ◌∷◌, take, get_or, length}
use Rattle.std.proofs.Common.{inl, inr, Result, Ok, Err, subst, sym, ap, ◌∙◌, arith}
use Rattle.std.specs.List.{AllByRecursion}
use Rattle.it_chain.specs.inside.Agreement.{IsAgreed, IsFirstOther}
use Rattle.it_chain.specs.inside.Threshold.{IsJudged, keys_of}
use Rattle.it_docs.specs.declared.step.Step.{Step}
use Rattle.it_chain.specs.declared.chain.StepResult.{StepResult}
use Rattle.it_chain.specs.declared.refusal.ChainError.{ChainError}
use Rattle.it_chain.specs.declared.refusal.ChainError.TheVariants.{Refused, OutOfMemory}
use Rattle.it_chain.specs.declared.record.IdRecord.{IdRecord}

first_at : (first : IdRecord) (others : List IdRecord) (i : ℕ) (d : IdRecord) → i < length others
    → AllByRecursion (λ r. r.recorded ≡ first.recorded) (take i others)
    → (get_or others i d).recorded ≢ first.recorded
    → IsFirstOther first others (get_or others i d).id
first_at first [] i d below same differs = absurd (omega (arith, below))
first_at first (q ∷ qs) zero d below same differs = inl (differs, λ i. q.id)
first_at first (q ∷ qs) (suc i) d below same differs =
    inr (same.0, first_at first qs i d (omega (arith, below)) same.1 differs)

pub first_other : (first : IdRecord) (others : List IdRecord) (i : ℕ) (q : IdRecord)
    → i < length others → AllByRecursion (λ r. r.recorded ≡ first.recorded) (take i others)
    → q ≡ get_or others i q → q.recorded ≢ first.recorded → IsFirstOther first others q.id
first_other first others i q below same is differs =
    subst (λ (r : IdRecord). IsFirstOther first others r.id) (sym is)
    (first_at first others i q below same
    (λ e. differs (ap (λ (r : IdRecord). r.recorded) is ∙ e)))

pub judged_by : (step : Step) (records : List IdRecord) (first : IdRecord) (others : List IdRecord)
    (found : ℕ) (result : Result StepResult ChainError) → records ≡ first ∷ others
    → found ≡ keys_of records → step.threshold ≤ found
    → IsAgreed step found first others result → IsJudged step records result
judged_by step records first others found (Ok result) split count enough h = (
  first,
  others,
  split,
  subst (λ n. step.threshold ≤ n) count enough,
  subst (λ n. IsAgreed step n first others (Ok result)) count h,
)
judged_by step records first others found (Err (Refused r)) split count enough h =
    inr (
      first,
      others,
      split,
      subst (λ n. step.threshold ≤ n) count enough,
      subst (λ n. IsAgreed step n first others (Err (Refused r))) count h,
    )
judged_by step records first others found (Err OutOfMemory) split count enough h = tt
