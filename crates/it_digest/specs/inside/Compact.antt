-- Digest sets as maps keep them.
use Rattle.it_digest.specs.DigestSet.{in_sha256, only}
use Rattle.it_digest.specs.declared.compact.Kept.{Kept}
use Rattle.it_digest.specs.declared.compact.Kept.TheVariants.{Sha256, Whole}
use Rattle.it_digest.specs.declared.compare.DigestSet.{DigestSet}

-- the set of which this is kept
abbrev pub set_of : Kept → DigestSet
set_of (Sha256 digest) = only in_sha256 digest
set_of (Whole set) = set.value
