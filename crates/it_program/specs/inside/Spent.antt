-- What a verification is stopped by where it may check no more signatures.
use Rattle.std.specs.Prelude.{◌≡◌, ◌⊎◌, ℕ, Result, Err}
use Rattle.it_disk.specs.declared.fault.Fault.TheVariants.{Run}
use Rattle.it_outcome.specs.declared.outcome.RunFault.TheVariants.{OutOfMemory}
use Rattle.it_outcome.specs.declared.outcome.Status.{Status}
use Rattle.it_program.specs.declared.spent.Spent.{Spent}
use Rattle.it_program.specs.declared.stop.Stop.{Stop}
use Rattle.it_program.specs.declared.stop.Stop.TheVariants.{OfFault, TooManyChecks}

-- an outcome is told as it is, but lack of memory may be told as too many checks
abbrev pub IsToldSpent : ℕ → Result Status Stop → Result Status Stop → Type 0
IsToldSpent most outcome told =
    (told ≡ outcome)
    ⊎ ((outcome ≡ Err (OfFault (Run OutOfMemory)))
    × (spent : Spent) × (spent.most ≡ most) × (told ≡ Err (TooManyChecks spent)))
