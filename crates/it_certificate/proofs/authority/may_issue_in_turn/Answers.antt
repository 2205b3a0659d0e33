use Rattle.std.proofs.Common.{map}
use Rattle.it_certificate.specs.Authority.{MayIssueFrom}
use Rattle.it_certificate.specs.Certificate.{facts_of}
use Rattle.it_certificate.proofs.Chaining.{turn_over, turn_stops}
use Rattle.it_certificate.proofs.authority.may_issue_in_turn.Goals as goal

pub returns-then-not-may_issue : goal.returns-then-not-may_issue
returns-then-not-may_issue c =
    let xs = c.args.certificates.now in
    turn_stops (MayIssueFrom 0 (map facts_of xs)) c.loop-place.place xs c.index-certificates-place.result c.may_issue.result
    c.loop-place-test.true c.index-certificates-place.is c.may_issue.ensures c.if-not-may_issue.true c.loop-place.invariant

pub loop-place-preserved : goal.loop-place-preserved
loop-place-preserved c =
    let xs = c.args.certificates.now in
    turn_over (MayIssueFrom 0 (map facts_of xs)) c.loop-place.place xs c.index-certificates-place.result c.may_issue.result
    c.loop-place-test.true c.index-certificates-place.is c.may_issue.ensures c.if-not-may_issue.false c.loop-place.invariant
