-- What a function that fails answers, in terms of the definitions.
use Rattle.std.specs.Prelude.{◌≡◌, ⊤}
use Rattle.it_chain.specs.declared.refusal.ChainError.{ChainError}
use Rattle.it_chain.specs.declared.refusal.ChainError.TheVariants as chain
use Rattle.it_report.specs.declared.refusal.Refusal.{Refusal}
use Rattle.it_verify.specs.Refusals.{refusal_of}
use Rattle.it_verify.specs.declared.failure.Failure.{Failure}
use Rattle.it_verify.specs.declared.failure.Failure.TheVariants.{Refused, OutOfMemory}
use Rattle.it_verify.specs.declared.grounds.Before.{Before}
use Rattle.it_verify.specs.declared.grounds.Outcome.{Outcome}
use Rattle.it_verify.specs.declared.grounds.Outcome.TheVariants as outcome

-- a failure: a refusal for which P holds, or that memory was refused
abbrev pub RefusedAs : (Refusal → Type 0) → Failure → Type 0
RefusedAs P (Refused refusal) = P refusal
RefusedAs P OutOfMemory = ⊤

-- why a layout does not hold for its links, as a failure of the verification
abbrev pub failure_of : ChainError → Failure
failure_of (chain.Refused refusal) = Refused (refusal_of refusal)
failure_of chain.OutOfMemory = OutOfMemory

-- the refusal that a failure is, with what was read and found before it
abbrev pub IsRefusedWith : Failure → Before → Outcome → Type 0
IsRefusedWith (Refused refusal) before given = given ≡ outcome.Refused refusal before
IsRefusedWith OutOfMemory before given = ⊥
