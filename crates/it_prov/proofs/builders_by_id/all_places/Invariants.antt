use Rattle.std.proofs.Common.{◌<◌, ℕ, Contains}
use Rattle.it_prov.proofs.builders_by_id.all_places.Given as goal

abbrev pub invariant-loop-place : goal.invariant-loop-place
invariant-loop-place l = (place : ℕ) → place < l.place → Contains l.places.items place
