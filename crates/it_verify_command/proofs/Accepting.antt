-- What is told of verdicts that accept, and of options.
use Rattle.std.proofs.Common.{IfOk, IfSome, Result, Ok, Err}
use Rattle.std.specs.Result.{result_ok}
use Rattle.it_report.specs.declared.verdict.Verdict.{Verdict}
use Rattle.it_report.specs.declared.verdict.Verdict.TheVariants as verdicts
use Rattle.it_verify.specs.Verdict.{OnAccepted}

-- what holds anyway holds for a verdict that accepts
pub for_any : (P : Type 0) (verdict : Verdict) → P → OnAccepted verdict P
for_any P (verdicts.Accepted steps files) p = p
for_any P (verdicts.Refused refusal) p = tt

-- what holds of an answer holds of it as an option
pub if_some : {T E : Type 0} (P : T → Type 0) (result : Result T E) → IfOk result P
    → IfSome (result_ok result) P
if_some P (Ok x) p = p
if_some P (Err e) p = tt
