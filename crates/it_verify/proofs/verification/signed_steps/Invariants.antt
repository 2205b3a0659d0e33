use Rattle.std.proofs.Common.{◌≡◌, map, take}
use Rattle.it_verify.proofs.verification.signed_steps.Given as goal

-- the steps so far
abbrev pub invariant-loop-step : goal.invariant-loop-step
invariant-loop-step l =
    l.steps.items ≡ map (λ step. (step.name, step.keys)) (take l.step-index l.results)
