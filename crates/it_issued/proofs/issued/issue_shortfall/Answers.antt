use Rattle.std.proofs.Common.{map}
use Rattle.it_certificate.specs.Certificate.{facts_of}
use Rattle.it_issued.specs.declared.shortfall.IssueShortfall.TheVariants as shortfalls
use Rattle.it_issued.proofs.Issuing.{first_read}
use Rattle.it_issued.proofs.IssueMissing.{all_met, below_authority_time, below_leaf_time, below_name, below_signature, below_window, missed, of_first, of_none}
use Rattle.it_issued.proofs.Tests.{is_not}
use Rattle.it_issued.proofs.issued.issue_shortfall.Goals as goal

pub returns-in_default-clause-answer : goal.returns-in_default-clause-answer
returns-in_default-clause-answer c =
    let xs = c.args.authority.now.certificates.items in
    let none = rw c.as_slice-certificates.ensures.value at c.in_default.ensures.value in
    missed (map facts_of xs) c.args.authority.now.window (facts_of c.args.leaf.now) c.args.moment shortfalls.Name
    (below_name _ _ _ _) (of_none _ xs none)

pub returns-then-not-is_named-clause-answer : goal.returns-then-not-is_named-clause-answer
returns-then-not-is_named-clause-answer c =
    let xs = c.args.authority.now.certificates.items in
    let first = rw c.as_slice-certificates.ensures.value at c.in-Some.ensures.value in
    missed (map facts_of xs) c.args.authority.now.window (facts_of c.args.leaf.now) c.args.moment shortfalls.Name
    (below_name _ _ _ _)
    (λ of. is_not _ c.is_named.result c.is_named.ensures c.if-not-is_named.true ((of_first _ xs c.in-Some.issuer.now first).0 of))

pub returns-then-not-is_trusted-clause-answer : goal.returns-then-not-is_trusted-clause-answer
returns-then-not-is_trusted-clause-answer c =
    let xs = c.args.authority.now.certificates.items in
    let first = rw c.as_slice-certificates.ensures.value at c.in-Some.ensures.value in
    missed (map facts_of xs) c.args.authority.now.window (facts_of c.args.leaf.now) c.args.moment shortfalls.Window
    (below_window _ _ _ _ ((of_first _ xs c.in-Some.issuer.now first).1 (c.is_named.ensures.0 c.if-not-is_named.false)))
    (is_not _ c.is_trusted.result c.is_trusted.ensures c.if-not-is_trusted.true)

pub returns-then-not-is_valid-clause-answer : goal.returns-then-not-is_valid-clause-answer
returns-then-not-is_valid-clause-answer c =
    let xs = c.args.authority.now.certificates.items in
    let first = rw c.as_slice-certificates.ensures.value at c.in-Some.ensures.value in
    missed (map facts_of xs) c.args.authority.now.window (facts_of c.args.leaf.now) c.args.moment shortfalls.LeafTime
    (below_leaf_time _ _ _ _ ((of_first _ xs c.in-Some.issuer.now first).1 (c.is_named.ensures.0 c.if-not-is_named.false))
    (c.is_trusted.ensures.0 c.if-not-is_trusted.false))
    (is_not _ c.is_valid.result c.is_valid.ensures c.if-not-is_valid.true)

pub returns-then-not-are_valid-clause-answer : goal.returns-then-not-are_valid-clause-answer
returns-then-not-are_valid-clause-answer c =
    let xs = c.args.authority.now.certificates.items in
    let first = rw c.as_slice-certificates.ensures.value at c.in-Some.ensures.value in
    let all = rw c.as_slice-certificates.ensures.value at c.are_valid.ensures in
    missed (map facts_of xs) c.args.authority.now.window (facts_of c.args.leaf.now) c.args.moment shortfalls.AuthorityTime
    (below_authority_time _ _ _ _ ((of_first _ xs c.in-Some.issuer.now first).1 (c.is_named.ensures.0 c.if-not-is_named.false))
    (c.is_trusted.ensures.0 c.if-not-is_trusted.false) (c.is_valid.ensures.0 c.if-not-is_valid.false))
    (is_not _ c.are_valid.result all c.if-not-are_valid.true)

pub is_signed_by-requires : goal.is_signed_by-requires
is_signed_by-requires c =
    let first = rw c.as_slice-certificates.ensures.value at c.in-Some.ensures.value in
    record {
      certificate_read = c.requires.leaf_read;
      issuer_read = first_read c.args.authority.now.certificates.items c.in-Some.issuer.now c.requires.authority_read first;
    }

pub returns-then-not-branch-clause-answer : goal.returns-then-not-branch-clause-answer
returns-then-not-branch-clause-answer c =
    let xs = c.args.authority.now.certificates.items in
    let first = rw c.as_slice-certificates.ensures.value at c.in-Some.ensures.value in
    let all = rw c.as_slice-certificates.ensures.value at c.are_valid.ensures in
    missed (map facts_of xs) c.args.authority.now.window (facts_of c.args.leaf.now) c.args.moment shortfalls.Signature
    (below_signature _ _ _ _ ((of_first _ xs c.in-Some.issuer.now first).1 (c.is_named.ensures.0 c.if-not-is_named.false))
    (c.is_trusted.ensures.0 c.if-not-is_trusted.false) (c.is_valid.ensures.0 c.if-not-is_valid.false)
    (all.0 c.if-not-are_valid.false))
    (λ of. is_not _ _ c.in_ok-is_signed_by.ensures.answer c.if-not-branch.true ((of_first _ xs c.in-Some.issuer.now first).0 of))

pub returns-clause-answer : goal.returns-clause-answer
returns-clause-answer c =
    let xs = c.args.authority.now.certificates.items in
    let first = rw c.as_slice-certificates.ensures.value at c.in-Some.ensures.value in
    let all = rw c.as_slice-certificates.ensures.value at c.are_valid.ensures in
    all_met (map facts_of xs) c.args.authority.now.window (facts_of c.args.leaf.now) c.args.moment
    ((of_first _ xs c.in-Some.issuer.now first).1 (c.is_named.ensures.0 c.if-not-is_named.false))
    (c.is_trusted.ensures.0 c.if-not-is_trusted.false) (c.is_valid.ensures.0 c.if-not-is_valid.false)
    (all.0 c.if-not-are_valid.false)
    ((of_first _ xs c.in-Some.issuer.now first).1 (c.in_ok-is_signed_by.ensures.answer.0 c.if-not-branch.false))
