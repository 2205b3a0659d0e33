use Rattle.it_borrowed.specs.Tree.{as_data}
use Rattle.it_log_entry.proofs.Bodies.{certificate_is, certificate_none, mapped, refused}
use Rattle.it_log_entry.proofs.certificate_text.has_certificate.Goals as goal

pub returns-in_default : goal.returns-in_default
returns-in_default c =
    let none = rw c.in_default.is at c.in_ok-bytes.ensures in
    refused _ (certificate_none c.args.name.now (as_data c.args.value.now) c.args.certificate.now
    (λ text utf8. none text))

pub returns-in-Ok : goal.returns-in-Ok
returns-in-Ok c =
    let part = rw c.in-Some.is at c.in_ok-bytes.ensures in
    let text = c.in-Ok.ensures.cases in
    let utf8 = rw c.as_slice.ensures at text.1 in
    mapped c.is_certificate_text.result _ _ (λ b test. certificate_is c.args.name.now
    (as_data c.args.value.now) c.in-Some.bytes c.args.certificate.now b part utf8
    (rw (text.0, c.as_slice.ensures) at test)) c.is_certificate_text.ensures
