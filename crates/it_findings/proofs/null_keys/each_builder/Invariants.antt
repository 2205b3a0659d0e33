use Rattle.std.proofs.Common.{map, take}
use Rattle.it_borrowed.specs.Tree.{as_data}
use Rattle.it_findings.specs.Joined.{Joined}
use Rattle.it_findings.specs.NullKeys.{BuilderNulls}
use Rattle.it_findings.proofs.null_keys.each_builder.Given as goal

abbrev pub invariant-loop-builder : goal.invariant-loop-builder
invariant-loop-builder l = Joined (BuilderNulls l.expectation) (take l.builder (map as_data l.builders.items)) l.found.items
