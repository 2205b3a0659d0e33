use Rattle.std.proofs.Common.{All}
use Rattle.it_member_notes.specs.Places.{IsOfPolicy}
use Rattle.it_member_notes.proofs.places.push_builder_keys.Given as goal

abbrev pub invariant-loop-id : goal.invariant-loop-id
invariant-loop-id l = All IsOfPolicy l.places.items
