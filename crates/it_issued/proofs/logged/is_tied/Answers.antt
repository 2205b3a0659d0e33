use Rattle.std.proofs.Common.{◌↔◌, IfOk, IsTrue, sym, subst}
use Rattle.it_certificate_log.specs.Timestamp.{stamp_of}
use Rattle.it_issued.specs.declared.logged.Tie.{Tie}
use Rattle.it_issued.specs.inside.Tied.{Tied}
use Rattle.it_issued.proofs.logged.is_tied.Goals as goal

pub returns-in-Window-clause-answer : goal.returns-in-Window-clause-answer
returns-in-Window-clause-answer c =
    subst (λ (t : Tie). IsTrue c.is_in_window.result ↔ Tied t c.args.text.now (stamp_of c.args.timestamp.now) c.args.log.now)
    (sym c.in-Window.is) c.is_in_window.ensures

pub returns-in-Signature-clause-answer : goal.returns-in-Signature-clause-answer
returns-in-Signature-clause-answer c =
    subst (λ (t : Tie). IfOk c.is_by_log.result (λ is. IsTrue is
    ↔ Tied t c.args.text.now (stamp_of c.args.timestamp.now) c.args.log.now))
    (sym c.in-Signature.is) c.is_by_log.ensures.answer
