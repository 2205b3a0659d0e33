use Rattle.std.proofs.Common.{All, take}
use Rattle.it_member_notes.specs.inside.NamedLayout.{HasName}
use Rattle.it_member_notes.proofs.named_layout.add_steps.Given as goal

-- the names of the steps so far are there
abbrev pub invariant-loop-step : goal.invariant-loop-step
invariant-loop-step l = All (λ step. HasName l.names step.name) (take l.step-index l.steps)
