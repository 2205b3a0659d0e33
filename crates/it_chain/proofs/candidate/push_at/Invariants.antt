use Rattle.std.proofs.Common.{◌≡◌, ◌++◌, take}
use Rattle.it_chain.specs.inside.Places.{items_at}
use Rattle.it_chain.proofs.candidate.push_at.Given as goal

-- the envelopes at the places so far were appended
abbrev pub invariant-loop-place : goal.invariant-loop-place
invariant-loop-place l =
    l.found.items ≡ l.fn.found.items ++ items_at l.envelopes (take l.place-index l.places)
