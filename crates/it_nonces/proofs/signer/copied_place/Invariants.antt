use Rattle.std.proofs.Common.{◌≡◌, take}
use Rattle.it_nonces.proofs.signer.copied_place.Given as goal

-- the pairs that were copied so far
abbrev pub invariant-loop-step : goal.invariant-loop-step
invariant-loop-step l = l.copy.items ≡ take l.step-index l.at
