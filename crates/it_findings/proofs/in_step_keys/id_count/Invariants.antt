use Rattle.std.proofs.Common.{take}
use Rattle.it_findings.proofs.SeenIds.{HasIds}
use Rattle.it_findings.proofs.in_step_keys.id_count.Given as goal

abbrev pub invariant-loop-id : goal.invariant-loop-id
invariant-loop-id l = HasIds (take l.id-index l.ids) l.seen
