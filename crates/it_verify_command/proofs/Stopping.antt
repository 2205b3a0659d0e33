-- What a strict verification stops by.
use Rattle.std.proofs.Common.{◌≡◌, IsErrOf, Result, Ok, Err}
use Rattle.std.specs.Result.{IsErrAnd}
use Rattle.it_outcome.specs.declared.outcome.RunFault.{RunFault}
use Rattle.it_outcome.specs.declared.outcome.RunFault.TheVariants.{Write}
use Rattle.it_verify_command.specs.declared.strict_fault.StrictFault.{StrictFault}
use Rattle.it_verify_command.specs.declared.strict_fault.StrictFault.TheVariants.{Run}

-- where it stops since the output could not be written, that is why what it called stopped
pub write_by : {T : Type 0} (result : Result T StrictFault) (fault : RunFault)
    → IsErrAnd result (λ stop. stop ≡ Run fault) → IsErrOf result (Run Write)
    → fault ≡ Write
write_by (Ok x) fault is of = absurd is
write_by (Err stop) fault is of = cc
