use Rattle.std.proofs.Common.{◌≡◌, ℕ, List, map, take}
use Rattle.it_notes.proofs.inspections.names_of.Given as goal

-- the names of the records so far
abbrev pub invariant-loop-given : goal.invariant-loop-given
invariant-loop-given l = l.names.items
    ≡ map (λ (one : List ℕ × List ℕ). one.0) (take l.given-index l.records)
