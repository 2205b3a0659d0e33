use Rattle.std.proofs.Common.{map, take}
use Rattle.it_chain.specs.inside.ClaimedFiles.{AreClaimed}
use Rattle.it_step_evidence.proofs.ClaimedFor.{lent}
use Rattle.it_step_evidence.proofs.claimed.claimed_files.Given as goal

-- those of the files so far that are claimed for the step
abbrev pub invariant-loop-file : goal.invariant-loop-file
invariant-loop-file l =
    AreClaimed l.step (take l.file-index l.files) (map lent l.found.items)
