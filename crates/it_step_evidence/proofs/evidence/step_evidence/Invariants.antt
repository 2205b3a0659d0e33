use Rattle.std.proofs.Common.{ℤ, take}
use Rattle.std.specs.List.{AllZip}
use Rattle.it_step_evidence.specs.StepEvidence.{IsStepEvidence}
use Rattle.it_step_evidence.proofs.evidence.step_evidence.Given as goal

-- what counts for the steps so far
abbrev pub invariant-loop-step : goal.invariant-loop-step
invariant-loop-step g l = (moment : ℤ)
    → AllZip (IsStepEvidence (record { panel = g.C.Checks.panel l.checks; moment = moment })
    l.layout l.bundle) (take l.step-index l.step-items) l.found.items
