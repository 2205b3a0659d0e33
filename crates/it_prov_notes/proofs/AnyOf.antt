-- Whether some element is such.
use Rattle.std.proofs.Common.{◌↔◌, ◌<◌, ℕ, List, length, Bool, true, false, inl}
use Rattle.std.proofs.Common.{Any, IsTrue, inr, refl, sym, subst, arith}
use Rattle.std.specs.Bool.{MatchBool}
use Rattle.std.specs.List.{AllWithin, HoldsAt}
use Rattle.std.proofs.lemmas.Bool.{false≢true}
use Rattle.std.proofs.lemmas.Option.{slice_get_cases}

-- an answer that some element is such, or that none is
pub answers_any : {X : Type 0} (P : X → Type 0) (r : Bool) (xs : List X)
    → MatchBool r ((k : ℕ) × (k < length xs) × HoldsAt P xs k)
    (AllWithin (λ x. ¬ P x) xs 0 (length xs)) → IsTrue r ↔ Any P xs
answers_any P true xs (k, below, holds) = (
  λ h. elim (slice_get_cases xs k).1 [
    | inl at ↦ (k, at.0, below, at.3, subst P at.3 (holds at.0))
    | inr past ↦ absurd (omega (arith, past.0))
  ],
  λ h. refl,
)
answers_any P false xs none = (
  λ h. absurd (false≢true h),
  λ a. absurd (none a.0 a.1 (omega arith) a.2 (subst P (sym a.3) a.4)),
)
