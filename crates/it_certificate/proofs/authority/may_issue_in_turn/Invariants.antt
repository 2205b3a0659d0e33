use Rattle.std.proofs.Common.{◌↔◌, map, drop}
use Rattle.it_certificate.specs.Authority.{MayIssueFrom}
use Rattle.it_certificate.specs.Certificate.{facts_of}
use Rattle.it_certificate.proofs.authority.may_issue_in_turn.Given as goal

abbrev pub invariant-loop-place : goal.invariant-loop-place
invariant-loop-place l =
    MayIssueFrom 0 (map facts_of l.certificates) ↔ MayIssueFrom l.place (map facts_of (drop l.place l.certificates))
