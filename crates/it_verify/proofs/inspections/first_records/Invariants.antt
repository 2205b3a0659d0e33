use Rattle.std.proofs.Common.{take}
use Rattle.it_verify.specs.inside.Inspections.{AreFirsts}
use Rattle.it_verify.proofs.inspections.first_records.Given as goal

-- the first records among those so far
abbrev pub invariant-loop-name : goal.invariant-loop-name
invariant-loop-name l = AreFirsts (take l.name-index l.records) l.firsts
