use Rattle.it_certificate.specs.Certificate.{facts_of}
use Rattle.it_issued.proofs.Issuing.{first_read}
use Rattle.it_vouches.proofs.Authorities.{issued_by_is, log_missed_by, no_certificate}
use Rattle.it_vouches.proofs.trust.shortfall_by.Goals as goal

pub returns-in_default-clause-answer : goal.returns-in_default-clause-answer
returns-in_default-clause-answer c =
    no_certificate c.args.asked.now.logs.now (facts_of c.args.asked.now.leaf.now) c.args.asked.now.moment c.args.authority.now
    (rw c.as_slice.ensures.value at c.in_default.ensures.value)

pub issue_shortfall-requires : goal.issue_shortfall-requires
issue_shortfall-requires c = record { authority_read = c.requires.authority_read; leaf_read = c.requires.leaf_read }

pub returns-in-Some-2-clause-answer : goal.returns-in-Some-2-clause-answer
returns-in-Some-2-clause-answer c = rw c.in-Some-2.is at c.in_ok-missed.ensures.answer

pub log_shortfall-requires : goal.log_shortfall-requires
log_shortfall-requires c =
    let first = rw c.as_slice.ensures.value at c.in-Some.ensures.value in
    record {
      issuer_read = first_read c.args.authority.now.certificates.items c.in-Some.issuer.now c.requires.authority_read first;
      leaf_read = c.requires.leaf_read;
    }

pub returns-in-Some-3-clause-answer : goal.returns-in-Some-3-clause-answer
returns-in-Some-3-clause-answer c =
    let first = rw c.as_slice.ensures.value at c.in-Some.ensures.value in
    log_missed_by c.args.asked.now.logs.now (facts_of c.args.asked.now.leaf.now) c.args.asked.now.moment c.args.authority.now c.in-Some.issuer.now
    c.in-Some-3.missed first (rw c.in_default-2.is at c.in_ok-missed.ensures.answer)
    (rw c.in-Some-3.is at c.in_ok-missed-2.ensures.answer)

pub returns-clause-answer : goal.returns-clause-answer
returns-clause-answer c =
    let first = rw c.as_slice.ensures.value at c.in-Some.ensures.value in
    issued_by_is c.args.asked.now.logs.now (facts_of c.args.asked.now.leaf.now) c.args.asked.now.moment c.args.authority.now c.in-Some.issuer.now first
    (rw c.in_default-2.is at c.in_ok-missed.ensures.answer) (rw c.in_default-3.is at c.in_ok-missed-2.ensures.answer)
