use Rattle.std.proofs.Common.{take}
use Rattle.it_findings.specs.Joined.{Joined}
use Rattle.it_findings.specs.KeyUses.{BuilderUses}
use Rattle.it_findings.proofs.key_uses.each_builder.Given as goal

abbrev pub invariant-loop-place : goal.invariant-loop-place
invariant-loop-place l = Joined (BuilderUses l.expectation) (take l.place l.builders) l.uses.items
