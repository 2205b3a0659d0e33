use Rattle.std.proofs.Common.{take}
use Rattle.it_prov.specs.Ignored.{AreIgnored}
use Rattle.it_prov.proofs.parameters.ignored_by.Given as goal

-- the sets of the expectations so far
abbrev pub invariant-loop-expectation : goal.invariant-loop-expectation
invariant-loop-expectation l =
    AreIgnored (take l.expectation-index l.expectations) l.sets.items
