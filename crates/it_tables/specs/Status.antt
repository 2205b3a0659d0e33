-- The status that a program that tries tables ends with (this profile's choice).
use Rattle.std.specs.Prelude.{ℕ, Bool, true, false, Result, Ok, Err}
use Rattle.it_tables.specs.declared.fault.Fault.{Fault}
use Rattle.it_tables.specs.declared.fault.Fault.TheVariants.{OutOfMemory}

-- by whether all rows agree, and by the fault where not all were tried
abbrev pub program_status : Result Bool Fault → ℕ
program_status (Ok true) = 0
program_status (Ok false) = 1
program_status (Err OutOfMemory) = 3
program_status (Err _) = 2
