use Rattle.std.proofs.Common.{ℕ, List, take}
use Rattle.it_chain.specs.inside.ClaimedFiles.{AreClaimed, files_at}
use Rattle.it_chain.specs.inside.Places.{places_under}
use Rattle.it_chain.proofs.claimed_files.Claims.of.Given as goal

-- under each step's name stand the places of the files so far that are claimed for the step
abbrev pub invariant-loop-place : goal.invariant-loop-place
invariant-loop-place l = (step : List ℕ) → AreClaimed step (take l.place l.files)
    (files_at l.files (places_under l.by_step step))
