use Rattle.std.proofs.Common.{take}
use Rattle.it_prov.specs.Fits.{patterns_of}
use Rattle.it_unused.proofs.Using.{AreUsed}
use Rattle.it_unused.proofs.used.used_places.Given as goal

-- the places of those that are the first to speak of one of the paths so far
abbrev pub invariant-loop-path : goal.invariant-loop-path
invariant-loop-path l = AreUsed (patterns_of l.expectations) (take l.path-index l.paths) l.used
