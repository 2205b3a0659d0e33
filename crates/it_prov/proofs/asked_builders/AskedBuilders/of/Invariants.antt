use Rattle.std.proofs.Common.{take}
use Rattle.it_prov.specs.inside.Distinct.{AreAsked}
use Rattle.it_prov.proofs.asked_builders.AskedBuilders.of.Given as goal

-- which builders of the expectations so far are asked
abbrev pub invariant-loop-expectation : goal.invariant-loop-expectation
invariant-loop-expectation l =
    AreAsked (take l.expectation-index l.expectations) l.distinct.builders.items l.places.items
