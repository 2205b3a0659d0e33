use Rattle.std.proofs.Common.{◌∙◌}
use Rattle.it_certificate.specs.Authority.{AreTied, IsSignedBy}
use Rattle.it_certificate.specs.Certificate.{facts_of}
use Rattle.it_issued.specs.Signature.{Signs}
use Rattle.it_issued.proofs.Signing.{signed_is}
use Rattle.it_issued.proofs.Tests.{fails}
use Rattle.it_issued.proofs.signature.is_signed_by.Goals as goal

pub returns-then-not-are_tied-clause-answer : goal.returns-then-not-are_tied-clause-answer
returns-then-not-are_tied-clause-answer c =
    fails (AreTied c.args.issuer.now.key.curve c.args.certificate.now.algorithm)
    (IsSignedBy Signs (facts_of c.args.certificate.now) (facts_of c.args.issuer.now)) c.are_tied.result c.are_tied.ensures
    c.if-not-are_tied.true (λ is. is.tied)

pub returns-clause-answer : goal.returns-clause-answer
returns-clause-answer c =
    signed_is c.args.certificate.now c.args.issuer.now c.as_slice.result.now c.is_by.result c.requires.certificate_read
    (c.are_tied.ensures.0 c.if-not-are_tied.false) (c.as_slice.ensures.value ∙ c.in_ok-info.ensures) c.is_by.ensures
