use Rattle.std.proofs.Common.{◌≢◌, All, take}
use Rattle.it_docs.specs.declared.step.Step.{Step}
use Rattle.it_docs.proofs.step.step_named.Given as goal

-- no step so far has the name
abbrev pub invariant-loop-step : goal.invariant-loop-step
invariant-loop-step l =
    All (λ (step : Step). step.name ≢ l.name) (take l.step-index l.steps)
