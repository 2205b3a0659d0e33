use Rattle.std.proofs.Common.{take}
use Rattle.it_findings.proofs.SeenIds.{HasIds}
use Rattle.it_findings.specs.Joined.{Joined}
use Rattle.it_findings.specs.StepKeyFindings.{RepeatedKeyFindings}
use Rattle.it_findings.proofs.in_step_keys.repeated_keys.Given as goal

abbrev pub invariant-loop-place : goal.invariant-loop-place
invariant-loop-place l = record {
  seen : HasIds (take l.place l.ids) l.seen;
  joined : Joined (RepeatedKeyFindings l.ids l.at) (take l.place l.ids) l.found.items;
}
