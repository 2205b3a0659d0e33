use Rattle.std.proofs.Common.{take}
use Rattle.it_prov.specs.inside.Distinct.{ArePlaced}
use Rattle.it_prov.proofs.asked_builders.Distinct.places_for.Given as goal

-- the places for the builders so far
abbrev pub invariant-loop-builder : goal.invariant-loop-builder
invariant-loop-builder l = ArePlaced l.fn.self.builders.items l.self.builders.items
    (take l.builder-index l.builders) l.places.items
