-- Why files are not public keys.
use Rattle.std.specs.Prelude.{ℕ, List}
use Rattle.it_outcome.specs.declared.outcome.RunFault.TheVariants.{OutOfMemory}
use Rattle.it_key_commands.specs.KeyOutput.{IsFirstBadFile}
use Rattle.it_key_commands.specs.declared.fault.KeyFault.{KeyFault}
use Rattle.it_key_commands.specs.declared.fault.KeyFault.TheVariants.{Run, BadFile}

-- the first file that is not a public key, or memory was refused
abbrev pub IsFilesFault : List (List ℕ) → KeyFault → Type 0
IsFilesFault files (Run OutOfMemory) = Unit {0}
IsFilesFault files (BadFile place fault) = IsFirstBadFile files place fault
IsFilesFault files other = ⊥
