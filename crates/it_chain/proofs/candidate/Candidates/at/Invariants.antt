use Rattle.std.proofs.Common.{map, take}
use Rattle.it_chain.specs.inside.ClaimedFiles.{files_at}
use Rattle.it_chain.specs.inside.Candidates.{AreRead}
use Rattle.it_chain.proofs.candidate.Candidates.at.Given as goal

-- the candidates among the files at the places so far
abbrev pub invariant-loop-place : goal.invariant-loop-place
invariant-loop-place l = AreRead (files_at l.files (take l.place-index l.places))
    (map (λ envelope. envelope.now) l.envelopes.items)
