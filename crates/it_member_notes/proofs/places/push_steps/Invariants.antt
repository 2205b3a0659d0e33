use Rattle.std.proofs.Common.{All}
use Rattle.it_member_notes.specs.Places.{IsOfLayout}
use Rattle.it_member_notes.proofs.places.push_steps.Given as goal

abbrev pub invariant-loop-step : goal.invariant-loop-step
invariant-loop-step l = All IsOfLayout l.places.items
