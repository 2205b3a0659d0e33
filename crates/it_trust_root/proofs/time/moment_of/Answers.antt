use Rattle.std.proofs.Common.{◌++◌, codes}
use Rattle.it_trust_root.proofs.Times.{moment_found, moment_is_text}
use Rattle.it_trust_root.proofs.time.moment_of.Goals as goal

pub returns-in_default : goal.returns-in_default
returns-in_default c = λ moment is.
    (rw (c.in_default.is, c.with_zone-text.ensures) at c.from_utf8.ensures.cases).0
    (moment_is_text (c.args.to_second.now ++ codes "Z") moment is)

pub returns : goal.returns
returns c = rw c.ok.ensures.value (moment_found (c.args.to_second.now ++ codes "Z")
    c.read_moment.result (rw (c.in-Ok.ensures.cases.0, c.with_zone-text.ensures) at c.read_moment.ensures))
