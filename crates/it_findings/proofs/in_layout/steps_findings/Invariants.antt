use Rattle.std.proofs.Common.{take}
use Rattle.it_findings.specs.Joined.{Joined}
use Rattle.it_findings.specs.LayoutFindings.{StepFindings}
use Rattle.it_findings.proofs.in_layout.steps_findings.Given as goal

abbrev pub invariant-loop-place : goal.invariant-loop-place
invariant-loop-place l =
    Joined (StepFindings l.layout) (take l.place l.layout.steps) l.found.items
