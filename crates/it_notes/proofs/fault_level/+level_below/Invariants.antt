use Rattle.std.proofs.Common.{length}
use Rattle.it_notes.proofs.fault_level.+level_below.Given as goal

abbrev pub decreases-level_below : goal.decreases-level_below
decreases-level_below g l = length l.at.now
