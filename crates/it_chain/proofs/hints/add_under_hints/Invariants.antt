use Rattle.std.proofs.Common.{◌≡◌, ◌++◌, ◌∷◌, [], ℕ, List, if◌then◌else◌, take}
use Rattle.it_chain.specs.inside.Hints.{hints_at}
use Rattle.it_chain.specs.inside.Places.{places_under}
use Rattle.it_chain.proofs.hints.add_under_hints.Given as goal

-- the place is under the hints so far
abbrev pub invariant-loop-signature : goal.invariant-loop-signature
invariant-loop-signature l = (id : List ℕ) → places_under l.named id
    ≡ (if hints_at id (take l.signature-index l.signatures)
    then places_under l.fn.named id ++ l.place ∷ [] else places_under l.fn.named id)
