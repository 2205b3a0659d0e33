use Rattle.std.proofs.Common.{map}
use Rattle.it_certificate.specs.Authority.{IsSignedBy}
use Rattle.it_certificate.specs.Certificate.{facts_of}
use Rattle.it_certificate.proofs.Chaining.{some_there}
use Rattle.it_issued.specs.Signature.{Signs}
use Rattle.it_root_notes.specs.AuthorityMisses.{Names}
use Rattle.it_root_notes.proofs.Chains.{names, none_barred, signed, some_facts}
use Rattle.it_root_notes.proofs.Standing.{none_misses}
use Rattle.it_root_notes.proofs.authority.chain_shortfall.Goals as goal

pub returns-in-Some-clause-answer : goal.returns-in-Some-clause-answer
returns-in-Some-clause-answer c =
    let facts = map facts_of c.args.certificates.now in
    let misses = rw c.in-Some.is at c.first_other_issuer.ensures in (
      λ authority. none_misses Names facts c.in-Some.place (names facts authority.chain.linked)
          misses,
      misses,
    )

pub returns-in-Some-first_barred-clause-answer : goal.returns-in-Some-first_barred-clause-answer
returns-in-Some-first_barred-clause-answer c =
    let facts = map facts_of c.args.certificates.now in
    let linked = rw c.in_default.is at c.first_other_issuer.ensures in
    let misses = rw c.in-Some-first_barred.is at c.first_barred.ensures in (
      λ authority. none_barred c.in-Some-first_barred.barred.reason 0 facts
          c.in-Some-first_barred.barred.place authority.chain.may_issue misses,
      (linked, misses),
    )

pub returns-in-Some-2-clause-answer : goal.returns-in-Some-2-clause-answer
returns-in-Some-2-clause-answer c =
    let xs = c.args.certificates.now in
    let facts = map facts_of xs in
    let some = some_there xs c.is_empty.result c.is_empty.ensures c.if-is_empty.false in
    let linked = rw c.in_default.is at c.first_other_issuer.ensures in
    let may_issue = rw c.in_default-first_barred.is at c.first_barred.ensures in
    let misses = rw c.in-Some-2.is at c.in_ok-place.ensures.answer in (
      λ authority. none_misses (IsSignedBy Signs) facts c.in-Some-2.place
          (signed facts authority.signed) misses,
      (record { some = some_facts xs some; may_issue = may_issue; linked = linked }, misses),
    )
