use Rattle.std.proofs.Common.{take}
use Rattle.it_findings.specs.Joined.{Joined}
use Rattle.it_findings.specs.KeyUses.{ExpectationUses}
use Rattle.it_findings.proofs.key_uses.builder_uses.Given as goal

abbrev pub invariant-loop-place : goal.invariant-loop-place
invariant-loop-place l = Joined ExpectationUses (take l.place l.expectations) l.uses.items
