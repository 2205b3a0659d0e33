use Rattle.std.proofs.Common.{◌≡◌, take}
use Rattle.std.specs.List.{flat_map}
use Rattle.it_nonces.specs.SharedNonces.{shared_in}
use Rattle.it_nonces.proofs.shared.shared_nonces.Given as goal

-- what is found in the signatures so far
abbrev pub invariant-loop-at : goal.invariant-loop-at
invariant-loop-at l = l.found.items ≡ flat_map (shared_in l.uses) (take l.at-index l.uses)
