use Rattle.std.proofs.Common.{All}
use Rattle.it_member_notes.specs.Places.{IsOfPolicy}
use Rattle.it_member_notes.proofs.places.push_builders.Given as goal

abbrev pub invariant-loop-builder : goal.invariant-loop-builder
invariant-loop-builder l = All IsOfPolicy l.places.items
