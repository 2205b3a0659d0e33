-- Why no link is made.
use Rattle.std.proofs.Common.{◌≢◌, ℕ, List}
use Rattle.it_digest.specs.Artifacts.{ArtifactMap}
use Rattle.it_digest.specs.DigestSet.{in_sha256}
use Rattle.it_digest.specs.Sums.{SumsOf}
use Rattle.it_outcome.specs.declared.outcome.RunFault.{RunFault}
use Rattle.it_outcome.specs.declared.outcome.RunFault.TheVariants.{Write, OutOfMemory, BadProducts}
use Rattle.it_making.specs.LinkOutput.{IsLinkFault}
use Rattle.it_making.specs.inside.LinkParts.{IsProductsFault}

-- products that are not read, after materials that are
pub products_fault : (materials products : List ℕ) (fault : RunFault) (sums : ArtifactMap)
    → SumsOf in_sha256 materials sums → IsProductsFault products fault
    → (fault ≢ Write) × IsLinkFault materials products fault
products_fault materials products OutOfMemory sums good h = (λ e. cc, tt)
products_fault materials products (BadProducts line) sums good h = (λ e. cc, ((sums, good), h))
products_fault materials products fault sums good h = absurd h
