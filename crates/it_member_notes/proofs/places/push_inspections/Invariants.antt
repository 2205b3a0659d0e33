use Rattle.std.proofs.Common.{All}
use Rattle.it_member_notes.specs.Places.{IsOfLayout}
use Rattle.it_member_notes.proofs.places.push_inspections.Given as goal

abbrev pub invariant-loop-inspection : goal.invariant-loop-inspection
invariant-loop-inspection l = All IsOfLayout l.places.items
