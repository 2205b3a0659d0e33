use Rattle.std.proofs.Common.{take}
use Rattle.it_findings.specs.inside.FirstPlaces.{ArePlaces}
use Rattle.it_findings.proofs.shared_keys.first_places.Given as goal

abbrev pub invariant-loop-place : goal.invariant-loop-place
invariant-loop-place l = ArePlaces (take l.place l.uses) l.places
