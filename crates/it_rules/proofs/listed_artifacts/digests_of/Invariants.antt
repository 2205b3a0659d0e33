use Rattle.std.proofs.Common.{◌≡◌, ◌++◌, map}
use Rattle.std.specs.FinMap.{values}
use Rattle.it_rules.proofs.LentDigests.{set_of, set_in}
use Rattle.it_rules.proofs.listed_artifacts.digests_of.Given as goal

-- the digests so far, and those to come, are all of the map
abbrev pub invariant-loop-digests : goal.invariant-loop-digests
invariant-loop-digests l =
    map set_of l.found.items ++ map set_in l.digests-iterator ≡ values l.artifacts
