use Rattle.std.proofs.Common.{◌≡◌, length}
use Rattle.it_signer_notes.specs.Nearest.{before_at}
use Rattle.it_signer_notes.proofs.before_at.before_at.Given as goal

-- the answer is that of what is left
abbrev pub invariant-loop-last : goal.invariant-loop-last
invariant-loop-last l = before_at l.rest ≡ before_at l.name

abbrev pub decreases-loop-last : goal.decreases-loop-last
decreases-loop-last l = length l.rest
