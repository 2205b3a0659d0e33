use Rattle.it_certificate.specs.Authority.{MayIssueFrom}
use Rattle.it_root_notes.proofs.Chains.{front}
use Rattle.it_root_notes.proofs.chain.first_barred.Given as goal

-- those so far may issue others
abbrev pub invariant-loop-place : goal.invariant-loop-place
invariant-loop-place l = MayIssueFrom 0 (front l.place l.certificates)
