-- Memory that is refused to the output of a command.
use Rattle.std.specs.Prelude.{◌≡◌, ◌⊎◌, IsSome, Option, Result, Ok, Err}
use Rattle.it_disk.specs.declared.fault.Fault.TheVariants.{Run}
use Rattle.it_outcome.specs.declared.outcome.RunFault.TheVariants.{Write}
use Rattle.it_outcome.specs.declared.outcome.Status.{Status}
use Rattle.it_program.specs.declared.stop.Stop.{Stop}
use Rattle.it_program.specs.declared.stop.Stop.TheVariants.{OfFault}

-- the command stopped, and its output was refused: an error is remembered, or the command stopped
-- for that
abbrev pub IsRefused : {E : Type 0} → Result Status Stop → Option E → Type 0
IsRefused (Ok status) error = ⊥
IsRefused (Err stop) error = IsSome error ⊎ (stop ≡ OfFault (Run Write))
