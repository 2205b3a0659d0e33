use Rattle.std.proofs.Common.{All}
use Rattle.it_member_notes.specs.Places.{IsOfPolicy}
use Rattle.it_member_notes.proofs.places.push_expectations.Given as goal

abbrev pub invariant-loop-expectation : goal.invariant-loop-expectation
invariant-loop-expectation l = All IsOfPolicy l.places.items
