use Rattle.std.proofs.Common.{map, refl, subst}
use Rattle.it_certificate.specs.Authority.{AreSignedInTurn, IsChain}
use Rattle.it_certificate.specs.Certificate.{facts_of}
use Rattle.it_issued.specs.Signature.{Signs}
use Rattle.it_issued.proofs.Reading.{one_way}
use Rattle.it_issued.proofs.authority.read_authority.Goals as goal

pub returns-in_default-clause-answer : goal.returns-in_default-clause-answer
returns-in_default-clause-answer c = λ facts is. (rw (c.in_default.is, c.as_slice.ensures) at c.in_ok-certificates.ensures) facts is.read

pub returns-then-not-is_chain-clause-answer : goal.returns-then-not-is_chain-clause-answer
returns-then-not-is_chain-clause-answer c =
    let read = rw (c.in-Some.is, c.as_slice.ensures) at c.in_ok-certificates.ensures in
    let test = rw c.as_slice-all.ensures.value at c.is_chain.ensures in
    λ facts is.
    let same = one_way c.args.authority.now.certificates facts (map facts_of c.in-Some.certificates.items) is.read read.0 in
    let yes = test.1 (subst IsChain same is.authority_is.chain) in
    cc

pub are_signed_in_turn-requires : goal.are_signed_in_turn-requires
are_signed_in_turn-requires c =
    let read = rw (c.in-Some.is, c.as_slice.ensures) at c.in_ok-certificates.ensures in
    rw c.as_slice-all.ensures.value read.1

pub returns-then-not-branch-clause-answer : goal.returns-then-not-branch-clause-answer
returns-then-not-branch-clause-answer c =
    let read = rw (c.in-Some.is, c.as_slice.ensures) at c.in_ok-certificates.ensures in
    let test = rw c.as_slice-all.ensures.value at c.in_ok-are_signed_in_turn.ensures.answer in
    λ facts is.
    let same = one_way c.args.authority.now.certificates facts (map facts_of c.in-Some.certificates.items) is.read read.0 in
    let yes = test.1 (subst (AreSignedInTurn Signs) same is.authority_is.signed) in
    cc

pub returns-clause-answer : goal.returns-clause-answer
returns-clause-answer c =
    let read = rw (c.in-Some.is, c.as_slice.ensures) at c.in_ok-certificates.ensures in
    let chain = rw c.as_slice-all.ensures.value at c.is_chain.ensures in
    let signed = rw c.as_slice-all.ensures.value at c.in_ok-are_signed_in_turn.ensures.answer in (
      record {
        read = read.0;
        authority_is = record { chain = chain.0 c.if-not-is_chain.false; signed = signed.0 c.if-not-branch.false };
      },
      read.1,
      refl,
    )
