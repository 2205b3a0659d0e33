use Rattle.std.proofs.Common.{take}
use Rattle.std.specs.List.{IsDistinct}
use Rattle.std.specs.Str.{bytes_eq}
use Rattle.it_dsse.specs.Ring.{ids_of}
use Rattle.it_dsse.specs.inside.RingIndex.{PlacesIds}
use Rattle.it_dsse.proofs.ring_index.places_of_ids.Given as goal

abbrev pub invariant-loop-place : goal.invariant-loop-place
invariant-loop-place l = record {
  placed : PlacesIds (take l.place l.entries) l.places;
  distinct : IsDistinct bytes_eq (ids_of (take l.place l.entries));
}
