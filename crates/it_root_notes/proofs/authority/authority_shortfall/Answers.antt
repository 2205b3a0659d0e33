use Rattle.std.proofs.Common.{map, subst}
use Rattle.it_certificate.specs.Authority.{AreAuthority}
use Rattle.it_certificate.specs.Certificate.{facts_of}
use Rattle.it_issued.specs.Signature.{Signs}
use Rattle.it_issued.proofs.Reading.{one_way}
use Rattle.it_root_notes.proofs.Unread.{none_unread}
use Rattle.it_root_notes.proofs.authority.authority_shortfall.Goals as goal

pub returns-in-Err-clause-answer : goal.returns-in-Err-clause-answer
returns-in-Err-clause-answer c =
    let listed = c.args.authority.now.certificates in
    let misses = rw (c.in-Err.is, c.as_slice.ensures) at c.in_ok-certificates.ensures in (
      λ usable. none_unread c.in-Err.unread.reason 0 listed usable.0 c.in-Err.unread.place
          usable.1.read misses,
      misses,
    )

pub returns-in-Some-clause-answer : goal.returns-in-Some-clause-answer
returns-in-Some-clause-answer c =
    let listed = c.args.authority.now.certificates in
    let facts = map facts_of c.in-Ok.certificates.items in
    let read = rw (c.in-Ok.is, c.as_slice.ensures) at c.in_ok-certificates.ensures in
    let missed = rw (c.in-Some.is, c.as_slice-2.ensures.value) at c.in_ok-missed.ensures.answer in (
      λ usable. missed.0 (subst (AreAuthority Signs)
          (one_way listed usable.0 facts usable.1.read read.0) usable.1.authority_is),
      record { certificates = facts; read = read.0; misses = missed.1 },
    )
