use Rattle.std.proofs.Common.{map, drop, subst, List}
use Rattle.it_certificate.specs.Certificate.{Facts, facts_of}
use Rattle.it_issued.specs.IssueMisses.{IssueMisses}
use Rattle.it_issued.specs.Issued.{IsIssued, IsUsable}
use Rattle.it_issued.specs.LogMisses.{LogMisses}
use Rattle.it_issued.specs.Logged.{IsLogged}
use Rattle.it_issued.proofs.Issuing.{first_facts, first_read}
use Rattle.it_issued.proofs.Missed.{whole_is}
use Rattle.it_leaf_vectors.proofs.Finding.{issues_is, no_issuer, no_leaf, promises_is, unusable}
use Rattle.it_leaf_vectors.proofs.found.find.Goals as goal

pub returns-in_default : goal.returns-in_default
returns-in_default c = unusable c.args.vector.now (rw c.in_default.is at c.in_ok-authority.ensures.answer)

pub returns-in_default-2 : goal.returns-in_default-2
returns-in_default-2 c =
    no_leaf c.args.vector.now (rw (c.in_default-2.is, c.as_slice-bytes.ensures) at c.in_ok-leaf.ensures)

pub returns-in_default-first : goal.returns-in_default-first
returns-in_default-first c =
    let read = rw c.in-Some.is at c.in_ok-authority.ensures.answer in
    no_issuer c.args.vector.now c.in-Some.authority.certificates.items
    (rw c.as_slice-certificates.ensures.value at c.in_default-first.ensures.value) read.0

pub issue_shortfall-requires : goal.issue_shortfall-requires
issue_shortfall-requires c =
    let read = rw c.in-Some.is at c.in_ok-authority.ensures.answer in
    let leaf = rw c.in-Some-2.is at c.in_ok-leaf.ensures in
    record {
      authority_read = read.1;
      leaf_read = record { bytes = c.as_slice-bytes.result.now; certificate = leaf.0; signed = leaf.1 };
    }

pub log_shortfall-requires : goal.log_shortfall-requires
log_shortfall-requires c =
    let read = rw c.in-Some.is at c.in_ok-authority.ensures.answer in
    let leaf = rw c.in-Some-2.is at c.in_ok-leaf.ensures in
    let first = rw c.as_slice-certificates.ensures.value at c.in-Some-first.ensures.value in
    record {
      issuer_read = first_read c.in-Some.authority.certificates.items c.in-Some-first.issuer.now read.1 first;
      leaf_read = record { bytes = c.as_slice-bytes.result.now; certificate = leaf.0; signed = leaf.1 };
    }

pub returns : goal.returns
returns c =
    let v = c.args.vector.now in
    let xs = c.in-Some.authority.certificates.items in
    let issuer = c.in-Some-first.issuer.now in
    let read = rw c.in-Some.is at c.in_ok-authority.ensures.answer in
    let leaf = rw (c.in-Some-2.is, c.as_slice-bytes.ensures) at c.in_ok-leaf.ensures in
    let first = rw c.as_slice-certificates.ensures.value at c.in-Some-first.ensures.value in
    let named = subst (λ (cs : List Facts). IsUsable c.args.vector.now.authority cs)
    (first_facts c.in-Some.authority.certificates.items c.in-Some-first.issuer.now first) read.0 in
    let issued = whole_is (IsIssued (map facts_of xs) c.in-Some.authority.window (facts_of c.in-Some-2.leaf) v.wanted.moment)
    (IssueMisses (map facts_of xs) c.in-Some.authority.window (facts_of c.in-Some-2.leaf) v.wanted.moment)
    c.in_ok-not_issued.not_issued c.is_none.result c.is_none.ensures c.in_ok-not_issued.ensures.answer in
    let logged = whole_is (IsLogged c.args.vector.now.logs (facts_of issuer) (facts_of c.in-Some-2.leaf))
    (LogMisses c.args.vector.now.logs (facts_of issuer) (facts_of c.in-Some-2.leaf)) c.in_ok-not_logged.not_logged
    c.is_none-2.result c.is_none-2.ensures (rw c.as_slice-logs.ensures at c.in_ok-not_logged.ensures.answer) in (
      issues_is v (map facts_of xs) (facts_of c.in-Some-2.leaf) c.in-Some.authority.window c.is_none.result read.0 leaf.0
          read.2 issued,
      promises_is v (facts_of issuer) (map facts_of (drop 1 xs)) (facts_of c.in-Some-2.leaf) c.is_none-2.result named leaf.0 logged,
    )
