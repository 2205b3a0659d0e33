-- How a command ends (this profile's choice).
use Rattle.std.specs.Prelude.{ℕ, Result, Ok, Err}
use Rattle.it_outcome.specs.declared.outcome.Status.{Status}
use Rattle.it_outcome.specs.declared.outcome.Status.TheVariants.{Good, Refused}
use Rattle.it_outcome.specs.declared.outcome.RunFault.{RunFault}
use Rattle.it_outcome.specs.declared.outcome.RunFault.TheVariants.{
  Write,
  OutOfMemory,
  UnknownKey,
  BadName,
  Digest,
  NoEnvelope,
  OtherPayload,
  OtherType,
  BadMaterials,
  BadProducts,
  BadSubjects,
  NoSubjects,
  BadParameters,
}

-- the exit status of the program
abbrev pub exit_status : Result Status RunFault → ℕ
exit_status (Ok Good) = 0
exit_status (Ok Refused) = 1
exit_status (Err Write) = 2
exit_status (Err OutOfMemory) = 3
exit_status (Err UnknownKey) = 2
exit_status (Err BadName) = 2
exit_status (Err (Digest fault)) = 2
exit_status (Err NoEnvelope) = 2
exit_status (Err OtherPayload) = 2
exit_status (Err OtherType) = 2
exit_status (Err (BadMaterials line)) = 2
exit_status (Err (BadProducts line)) = 2
exit_status (Err (BadSubjects line)) = 2
exit_status (Err NoSubjects) = 2
exit_status (Err BadParameters) = 2

-- a fault that every command may have: its output could not be written, or memory was refused
abbrev pub IsOutputFault : RunFault → Type 0
IsOutputFault Write = Unit {0}
IsOutputFault OutOfMemory = Unit {0}
IsOutputFault UnknownKey = ⊥
IsOutputFault BadName = ⊥
IsOutputFault (Digest fault) = ⊥
IsOutputFault NoEnvelope = ⊥
IsOutputFault OtherPayload = ⊥
IsOutputFault OtherType = ⊥
IsOutputFault (BadMaterials line) = ⊥
IsOutputFault (BadProducts line) = ⊥
IsOutputFault (BadSubjects line) = ⊥
IsOutputFault NoSubjects = ⊥
IsOutputFault BadParameters = ⊥
