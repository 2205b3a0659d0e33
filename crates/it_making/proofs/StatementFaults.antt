-- Why no Statement is made.
use Rattle.std.proofs.Common.{◌≢◌, ℕ, List, Option}
use Rattle.it_digest.specs.Artifacts.{ArtifactMap}
use Rattle.it_outcome.specs.declared.outcome.RunFault.{RunFault}
use Rattle.it_outcome.specs.declared.outcome.RunFault.TheVariants.{OutOfMemory, Write, BadParameters}
use Rattle.it_making.specs.StatementOutput.{AreSubjects, IsStatementFault}
use Rattle.it_making.specs.inside.StatementParts.{IsParametersFault}

-- parameters that are not read, after subjects that are
pub parameters_fault : (sums : List ℕ) (given : Option (List ℕ)) (fault : RunFault)
    (subjects : ArtifactMap) → AreSubjects sums subjects → IsParametersFault given fault
    → (fault ≢ Write) × IsStatementFault sums given fault
parameters_fault sums given OutOfMemory subjects good h = (λ e. cc, tt)
parameters_fault sums given BadParameters subjects good h = (λ e. cc, ((subjects, good), h))
parameters_fault sums given fault subjects good h = absurd h
