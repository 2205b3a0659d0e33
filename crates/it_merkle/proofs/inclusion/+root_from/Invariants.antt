use Rattle.std.proofs.Common.{length}
use Rattle.it_merkle.proofs.inclusion.+root_from.Given as goal

abbrev pub decreases-root_from : goal.decreases-root_from
decreases-root_from l = length l.path.now
