use Rattle.std.proofs.Common.{◌∙◌}
use Rattle.it_certificate.proofs.OneWay.{front_is}
use Rattle.it_certificate.proofs.front.first_bytes.Goals as goal

pub returns-in-Some : goal.returns-in-Some
returns-in-Some c = λ tag content rest begins.
    c.split_at.ensures.front
    ∙ front_is c.args.bytes.now c.in-Some.first.content.now c.in-Some.first.rest.now content rest
    c.in-Some.first.tag tag c.in-Some.ensures begins
