use Rattle.std.proofs.Common.{take}
use Rattle.it_dsse.specs.inside.RingIndex.{PlacesKeys}
use Rattle.it_dsse.proofs.ring_index.places_of_keys.Given as goal

abbrev pub invariant-loop-place : goal.invariant-loop-place
invariant-loop-place l = PlacesKeys (take l.place l.entries) l.places
