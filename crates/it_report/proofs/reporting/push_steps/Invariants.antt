use Rattle.std.proofs.Common.{◌≡◌, ◌++◌, take}
use Rattle.std.specs.List.{flat_map}
use Rattle.it_report.specs.Report.{step_line}
use Rattle.it_report.proofs.reporting.push_steps.Given as goal

abbrev pub invariant-loop-step : goal.invariant-loop-step
invariant-loop-step l = l.text.items ≡ l.fn.text.items
    ++ flat_map step_line (take l.step-index l.steps)
