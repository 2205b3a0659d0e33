use Rattle.std.proofs.Common.{◌≡◌, ◌++◌, ℕ, List, map, string_bytes}
use Rattle.std.specs.FinMap.{keys}
use Rattle.it_rule_notes.proofs.near.first_like.Given as goal

-- the paths so far, and those to come, are the paths of the artifacts
abbrev pub invariant-loop-other : goal.invariant-loop-other
invariant-loop-other l =
    (done : List (List ℕ)) × (done ++ map string_bytes l.other-iterator ≡ keys l.artifacts)
