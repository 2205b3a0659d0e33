use Rattle.std.proofs.Common.{map, take}
use Rattle.it_chain.specs.Signers.{entry_of}
use Rattle.it_step_evidence.specs.inside.Counting.{ArePlaces}
use Rattle.it_step_evidence.proofs.ClaimedFor.{lent}
use Rattle.it_step_evidence.proofs.places.signed_places.Given as goal

-- the places in the files so far
abbrev pub invariant-loop-file : goal.invariant-loop-file
invariant-loop-file g l =
    ArePlaces (g.C.Checks.panel l.checks) l.step (map lent (take l.file-index l.files))
    (entry_of l.signer) l.places
