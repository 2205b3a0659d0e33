use Rattle.it_certificate.proofs.Chaining.{no_certificates, not_in_turn, chain_is, none_there, some_there}
use Rattle.it_certificate.proofs.authority.is_chain.Goals as goal

pub returns-then-is_empty : goal.returns-then-is_empty
returns-then-is_empty c =
    no_certificates c.args.certificates.now
    (none_there c.args.certificates.now c.is_empty.result c.is_empty.ensures c.if-is_empty.true)

pub returns-then-not-may_issue_in_turn : goal.returns-then-not-may_issue_in_turn
returns-then-not-may_issue_in_turn c =
    not_in_turn c.args.certificates.now c.may_issue_in_turn.result c.may_issue_in_turn.ensures c.if-not-may_issue_in_turn.true

pub returns : goal.returns
returns c =
    chain_is c.args.certificates.now c.may_issue_in_turn.result c.are_linked.result
    (some_there c.args.certificates.now c.is_empty.result c.is_empty.ensures c.if-is_empty.false)
    c.may_issue_in_turn.ensures c.if-not-may_issue_in_turn.false c.are_linked.ensures
