use Rattle.std.proofs.Common.{append-nil, sym}
use Rattle.it_certificate_log.proofs.bare.append_critical.Goals as goal

pub returns-then-critical : goal.returns-then-critical
returns-then-critical c = rw c.if-critical.true c.append_element.ensures

pub returns-else-critical : goal.returns-else-critical
returns-else-critical c = rw c.if-critical.false (sym (append-nil c.args.bytes.now.items))
