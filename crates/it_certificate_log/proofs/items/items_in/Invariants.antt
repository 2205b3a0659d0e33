use Rattle.std.proofs.Common.{◌≡◌, ◌++◌, length, map}
use Rattle.std.specs.List.{flat_map}
use Rattle.it_certificate_log.specs.Counted.{counted}
use Rattle.it_certificate_log.proofs.Listing.{AreItem}
use Rattle.it_certificate_log.proofs.items.items_in.Given as goal

-- the items so far, and what comes after them
abbrev pub invariant-loop-rest : goal.invariant-loop-rest
invariant-loop-rest l = record {
  each : AreItem (map (λ i. i.now) l.items.items);
  written : l.bytes ≡ flat_map counted (map (λ i. i.now) l.items.items) ++ l.rest;
}

abbrev pub decreases-loop-rest : goal.decreases-loop-rest
decreases-loop-rest l = length l.rest
