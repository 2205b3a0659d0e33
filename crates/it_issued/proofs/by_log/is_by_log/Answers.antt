use Rattle.std.proofs.Common.{append-nil}
use Rattle.it_certificate_log.specs.Timestamp.{stamp_of}
use Rattle.it_issued.proofs.Logging.{by_log_is}
use Rattle.it_issued.proofs.Tests.{fails}
use Rattle.it_issued.proofs.by_log.is_by_log.Goals as goal

pub returns-then-not-is_in_window-clause-answer : goal.returns-then-not-is_in_window-clause-answer
returns-then-not-is_in_window-clause-answer c =
    fails _ _ c.is_in_window.result c.is_in_window.ensures c.if-not-is_in_window.true
    (λ by. record { id_is = by.id_is; trusted = by.trusted })

pub returns-clause-answer : goal.returns-clause-answer
returns-clause-answer c =
    by_log_is c.args.text.now (stamp_of c.args.timestamp.now) c.args.log.now c.is_signature.result
    (c.is_in_window.ensures.0 c.if-not-is_in_window.false) (rw (append-nil, c.key.ensures) at c.is_signature.ensures)
