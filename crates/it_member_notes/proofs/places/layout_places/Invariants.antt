use Rattle.std.proofs.Common.{All}
use Rattle.it_member_notes.specs.Places.{IsOfLayout}
use Rattle.it_member_notes.proofs.places.layout_places.Given as goal

abbrev pub invariant-loop-id : goal.invariant-loop-id
invariant-loop-id l = All IsOfLayout l.places.items
