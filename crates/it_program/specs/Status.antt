-- The status that the program ends with (this profile's choice).
use Rattle.std.specs.Prelude.{ℕ, Result, Ok, Err}
use Rattle.it_outcome.specs.Outcome.{exit_status}
use Rattle.it_outcome.specs.declared.outcome.Status.{Status}
use Rattle.it_disk.specs.declared.fault.Fault.TheVariants.{Run}
use Rattle.it_program.specs.declared.stop.Stop.{Stop}
use Rattle.it_program.specs.declared.stop.Stop.TheVariants.{OfFault}

-- that of the command or of a fault `Run`, and 2 for everything else that stops it
abbrev pub program_status : Result Status Stop → ℕ
program_status (Ok status) = exit_status (Ok status)
program_status (Err (OfFault (Run fault))) = exit_status (Err fault)
program_status (Err _) = 2
