-- What a refusal comes to, with what was read and found before it.
use Rattle.std.proofs.Common.{Result, Ok, Err, IfOk, subst, sym}
use Rattle.it_dsse.specs.Panel.{Panel}
use Rattle.it_verify.specs.Grounds.{HasLines, IsFound, IsOutcome, IsRefused}
use Rattle.it_verify.specs.RefusedFor.{RefusedFor}
use Rattle.it_verify.specs.inside.Failures.{IsRefusedWith, RefusedAs}
use Rattle.it_verify.specs.declared.failure.Failure.{Failure}
use Rattle.it_verify.specs.declared.failure.Failure.TheVariants.{Refused, OutOfMemory}
use Rattle.it_verify.specs.declared.grounds.Before.{Before}
use Rattle.it_verify.specs.declared.grounds.Before.TheVariants as had
use Rattle.it_verify.specs.declared.grounds.Found.{Found}
use Rattle.it_verify.specs.declared.grounds.Outcome.{Outcome}
use Rattle.it_verify.specs.declared.inputs.Inputs.{Inputs}

module _ (panel : Panel) (inputs : Inputs) (before : Before) where
  refused : (failure : Failure) → RefusedAs (IsRefused panel inputs before) failure
      → (given : Outcome) → IsRefusedWith failure before given → IsOutcome panel inputs given
  refused (Refused refusal) fails given is = subst (IsOutcome panel inputs) (sym is) fails
  refused OutOfMemory fails given is = absurd is

  pub refused_outcome : {E : Type 0} (failure : Failure)
      → RefusedAs (IsRefused panel inputs before) failure → (answer : Result Outcome E)
      → IfOk answer (IsRefusedWith failure before) → IfOk answer (IsOutcome panel inputs)
  refused_outcome failure fails (Ok given) is = refused failure fails given is
  refused_outcome failure fails (Err e) is = tt

-- what was found before a failure
pub refused_found : (panel : Panel) (inputs : Inputs) (found : Found) → IsFound panel inputs found
    → (failure : Failure) → RefusedAs (RefusedFor panel inputs) failure
    → RefusedAs (λ refusal. HasLines refusal.fault found.lines) failure
    → RefusedAs (IsRefused panel inputs (had.Found found)) failure
refused_found panel inputs found is (Refused refusal) first has = (first, (is, has))
refused_found panel inputs found is OutOfMemory first has = tt
