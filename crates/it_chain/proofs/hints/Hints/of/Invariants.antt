use Rattle.std.proofs.Common.{map}
use Rattle.it_chain.proofs.Candidates.{shown}
use Rattle.it_chain.proofs.Hinted.{ListedSoFar}
use Rattle.it_chain.proofs.hints.Hints.of.Given as goal

-- the envelopes so far stand under their hints
abbrev pub invariant-loop-place : goal.invariant-loop-place
invariant-loop-place l =
    ListedSoFar (map shown l.envelopes) l.place l.unhinted.items l.named
