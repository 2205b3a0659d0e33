-- Failures that speak of places which follow each other.
use Rattle.std.proofs.Common.{List, ◌∷◌, ◌++◌, inl}
use Rattle.it_base.specs.Places.{IsFirst, NoneAt}
use Rattle.it_base.proofs.Firsts.{first_behind}
use Rattle.it_verify.specs.inside.Failures.{RefusedAs}
use Rattle.it_verify.specs.declared.failure.Failure.{Failure}
use Rattle.it_verify.specs.declared.failure.Failure.TheVariants.{Refused, OutOfMemory}
use Rattle.it_report.specs.declared.refusal.Refusal.{Refusal}

-- where one fact of a refusal gives another
pub refused_weaker : (P Q : Refusal → Type 0) (e : Failure) → ((r : Refusal) → P r → Q r)
    → RefusedAs P e → RefusedAs Q e
refused_weaker P Q (Refused r) f h = f r h
refused_weaker P Q OutOfMemory f h = tt

module _ {P : Type 0} (At : P → Refusal → Type 0) where
  -- what stands at a place, behind places at which nothing does
  pub fails_at : (before : List P) (p : P) (later : List P) (e : Failure) → NoneAt At before
      → RefusedAs (At p) e → RefusedAs (IsFirst At (before ++ p ∷ later)) e
  fails_at before p later e none h = refused_weaker (At p) (IsFirst At (before ++ p ∷ later)) e
      (λ r x. first_behind At before (p ∷ later) r none (inl x)) h
