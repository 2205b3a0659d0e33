use Rattle.it_certificate_log.specs.Timestamp.{stamp_of}
use Rattle.it_issued.proofs.Logging.{in_window_is}
use Rattle.it_issued.proofs.Tests.{fails}
use Rattle.it_issued.proofs.by_log.is_in_window.Goals as goal

pub returns-then-not-has_id : goal.returns-then-not-has_id
returns-then-not-has_id c = fails _ _ c.has_id.result c.has_id.ensures c.if-not-has_id.true (λ is. is.id_is)

pub returns : goal.returns
returns c =
    in_window_is (stamp_of c.args.timestamp.now) c.args.log.now c.is_trusted.result (c.has_id.ensures.0 c.if-not-has_id.false)
    (rw c.milliseconds.ensures at c.is_trusted.ensures)
