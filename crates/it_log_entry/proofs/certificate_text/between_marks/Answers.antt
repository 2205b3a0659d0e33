use Rattle.std.proofs.Common.{◌≡◌, ◌∙◌, sym, refl}
use Rattle.std.proofs.lemmas.Slice.Eq.{bytes_eq-Decides}
use Rattle.it_pem.proofs.Walks.{is_same}
use Rattle.it_log_entry.specs.CertificateText.{begin_mark, end_mark}
use Rattle.it_log_entry.proofs.CertificateLines.{texts_cut}
use Rattle.it_log_entry.proofs.certificate_text.between_marks.Goals as goal

pub returns : goal.returns
returns c =
    let first = c.in_ok-first.first.now in
    let last = c.in_ok-last.last.now in
    let begins : first.now ≡ begin_mark = (bytes_eq-Decides first.now begin_mark).0
    (is_same _ (sym c.ne.ensures ∙ c.if-ne.false)) in
    let ends : last.now ≡ end_mark = (bytes_eq-Decides last.now end_mark).0
    (is_same _ (sym c.ne-2.ensures ∙ c.if-ne-2.false)) in
    texts_cut c.args.lines.now c.in_ok-first.others.now c.in_ok-last.body.now first last
    c.in_ok-first.ensures.cases.0 c.in_ok-last.ensures.cases.0 ∙ rw (begins, ends) refl
