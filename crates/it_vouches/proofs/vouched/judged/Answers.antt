use Rattle.it_certificate.specs.Certificate.{facts_of}
use Rattle.it_vouches.specs.declared.shortfall.Shortfall.TheVariants as shortfalls
use Rattle.it_vouches.specs.inside.Brought.{brought_of}
use Rattle.it_vouches.proofs.Missing.{entry_missed, issuer_missed, judged_short, log_missed, not_short, signature_missed}
use Rattle.it_vouches.proofs.Vouching.{names_of, vouches_then}
use Rattle.it_vouches.proofs.vouched.judged.Goals as goal

pub returns-in-Err-clause-answer : goal.returns-in-Err-clause-answer
returns-in-Err-clause-answer c = judged_short c.args.trust.now c.args.bundle.now c.in-Err.missed (c.in-Err.ensures c.args.trust.now)

pub returns-in-Err-2-clause-answer : goal.returns-in-Err-2-clause-answer
returns-in-Err-2-clause-answer c =
    let read = rw c.in-Err-2.is at c.in_ok-leaf.ensures in
    judged_short c.args.trust.now c.args.bundle.now (shortfalls.Leaf c.in-Err-2.missed) (record {
      brought = brought_of c.in-Ok.claim;
      brings = c.in-Ok.ensures;
      no_leaf = read.0;
      misses = read.1;
    })

pub returns-in_default-clause-answer : goal.returns-in_default-clause-answer
returns-in_default-clause-answer c =
    let leaf = c.in-Ok-2.leaf in
    let read = rw c.in-Ok-2.is at c.in_ok-leaf.ensures in
    judged_short c.args.trust.now c.args.bundle.now shortfalls.Identity (record {
      brought = brought_of c.in-Ok.claim;
      leaf = facts_of c.in-Ok-2.leaf.certificate;
      name = leaf.identity.name.now;
      issuer = leaf.identity.issuer.now;
      brings = c.in-Ok.ensures;
      leaf_is = read.0;
      not_short = not_short leaf.identity.name.now leaf.identity.issuer.now (rw c.in_default.is at c.in_ok-identity.ensures);
    })

pub returns-in-NoEntry-clause-answer : goal.returns-in-NoEntry-clause-answer
returns-in-NoEntry-clause-answer c =
    let leaf = c.in-Ok-2.leaf in
    let read = rw c.in-Ok-2.is at c.in_ok-leaf.ensures in
    let names = rw c.in-Some.is at c.in_ok-identity.ensures in
    entry_missed c.args.trust.now c.args.bundle.now (brought_of c.in-Ok.claim) (facts_of c.in-Ok-2.leaf.certificate)
    c.in-Some.identity
    (names_of c.args.bundle.now (brought_of c.in-Ok.claim) (facts_of c.in-Ok-2.leaf.certificate) leaf.identity.name.now
    leaf.identity.issuer.now c.in-Some.identity c.in-Ok.ensures read.0 names)
    (rw c.in-NoEntry.is at c.in_ok-attestation_of_claim.ensures.answer)

pub returns-in-NoLog-clause-answer : goal.returns-in-NoLog-clause-answer
returns-in-NoLog-clause-answer c =
    let leaf = c.in-Ok-2.leaf in
    let read = rw c.in-Ok-2.is at c.in_ok-leaf.ensures in
    let names = rw c.in-Some.is at c.in_ok-identity.ensures in
    log_missed c.args.trust.now c.args.bundle.now (brought_of c.in-Ok.claim) (facts_of c.in-Ok-2.leaf.certificate)
    c.in-Some.identity c.in-NoLog.missed
    (names_of c.args.bundle.now (brought_of c.in-Ok.claim) (facts_of c.in-Ok-2.leaf.certificate) leaf.identity.name.now
    leaf.identity.issuer.now c.in-Some.identity c.in-Ok.ensures read.0 names)
    (rw c.in-NoLog.is at c.in_ok-attestation_of_claim.ensures.answer)

pub returns-in-NoIssuer-clause-answer : goal.returns-in-NoIssuer-clause-answer
returns-in-NoIssuer-clause-answer c =
    let leaf = c.in-Ok-2.leaf in
    let read = rw c.in-Ok-2.is at c.in_ok-leaf.ensures in
    let names = rw c.in-Some.is at c.in_ok-identity.ensures in
    issuer_missed c.args.trust.now c.args.bundle.now (brought_of c.in-Ok.claim) (facts_of c.in-Ok-2.leaf.certificate)
    c.in-Some.identity c.in-NoIssuer.missed
    (names_of c.args.bundle.now (brought_of c.in-Ok.claim) (facts_of c.in-Ok-2.leaf.certificate) leaf.identity.name.now
    leaf.identity.issuer.now c.in-Some.identity c.in-Ok.ensures read.0 names)
    (rw c.in-NoIssuer.is at c.in_ok-attestation_of_claim.ensures.answer)

pub returns-then-not-branch-clause-answer : goal.returns-then-not-branch-clause-answer
returns-then-not-branch-clause-answer c =
    let leaf = c.in-Ok-2.leaf in
    let read = rw c.in-Ok-2.is at c.in_ok-leaf.ensures in
    let names = rw c.in-Some.is at c.in_ok-identity.ensures in
    signature_missed c.args.trust.now c.args.bundle.now (brought_of c.in-Ok.claim) (facts_of c.in-Ok-2.leaf.certificate)
    c.in-Some.identity c.in_ok-is_envelope_signed.field-0
    (names_of c.args.bundle.now (brought_of c.in-Ok.claim) (facts_of c.in-Ok-2.leaf.certificate) leaf.identity.name.now
    leaf.identity.issuer.now c.in-Some.identity c.in-Ok.ensures read.0 names)
    (rw c.in-Attested.is at c.in_ok-attestation_of_claim.ensures.answer).has_issuer c.in_ok-is_envelope_signed.ensures.answer c.if-not-branch.true

pub returns-clause-answer : goal.returns-clause-answer
returns-clause-answer c =
    let leaf = c.in-Ok-2.leaf in
    let read = rw c.in-Ok-2.is at c.in_ok-leaf.ensures in
    let names = rw c.in-Some.is at c.in_ok-identity.ensures in
    vouches_then c.args.trust.now c.args.bundle.now (brought_of c.in-Ok.claim) (facts_of c.in-Ok-2.leaf.certificate)
    c.in-Some.identity c.in-Attested.time
    (names_of c.args.bundle.now (brought_of c.in-Ok.claim) (facts_of c.in-Ok-2.leaf.certificate) leaf.identity.name.now
    leaf.identity.issuer.now c.in-Some.identity c.in-Ok.ensures read.0 names)
    (rw c.in-Attested.is at c.in_ok-attestation_of_claim.ensures.answer) (c.in_ok-is_envelope_signed.ensures.answer.0 c.if-not-branch.false)
