use Rattle.std.proofs.Common.{IsTrue, refl, sym, subst}
use Rattle.std.specs.List.{All}
use Rattle.std.proofs.lemmas.List.Elements.{All-map}
use Rattle.it_pem.specs.PublicKeyText.{is_body_line}
use Rattle.it_log_entry.specs.CertificateText.{begin_mark, end_mark}
use Rattle.it_log_entry.specs.inside.Lines.{texts_of}
use Rattle.it_log_entry.proofs.Bodies.{mapped, refused}
use Rattle.it_log_entry.proofs.CertificateLines.{decided, parts_are, shown_all}
use Rattle.it_log_entry.proofs.certificate_text.are_certificate.Goals as goal

pub returns-then-not-are_body_lines : goal.returns-then-not-are_body_lines
returns-then-not-are_body_lines c = refused _ (λ is.
    let body = c.in-Some.body.now in
    let parts = parts_are (texts_of c.args.lines.now) (texts_of body) begin_mark end_mark
    c.args.certificate.now c.in-Some.ensures is in
    let each = subst (All (λ line. IsTrue (is_body_line line))) (sym parts.2) is.body_lines in
    let yes = c.are_body_lines.ensures.1
    (shown_all (λ line. IsTrue (is_body_line line)) body each) in
    cc)

pub returns : goal.returns
returns c =
    let body = c.in-Some.body.now in
    mapped c.encodes.result _ _ (λ b test. decided (texts_of c.args.lines.now) (texts_of body)
    begin_mark end_mark c.args.certificate.now c.in_ok-text.text.items b c.in-Some.ensures refl refl
    (All-map (λ line. IsTrue (is_body_line line)) (λ line. line.now) body
    (c.are_body_lines.ensures.0 c.if-not-are_body_lines.false)) c.in_ok-text.ensures
    (rw c.as_slice.ensures.value at test)) c.encodes.ensures
