use Rattle.it_certificate.proofs.Times.{utc_found, generalized_found}
use Rattle.it_certificate.proofs.time.time_in.Goals as goal

pub returns-then-tag-eq-UTC_TIME : goal.returns-then-tag-eq-UTC_TIME
returns-then-tag-eq-UTC_TIME c =
    utc_found c.args.tag c.args.content.now c.short_time.result c.if-tag-eq-UTC_TIME.true c.short_time.ensures

pub returns-then-tag-eq-GENERALIZED_TIME : goal.returns-then-tag-eq-GENERALIZED_TIME
returns-then-tag-eq-GENERALIZED_TIME c =
    generalized_found c.args.tag c.args.content.now c.long_time.result c.if-tag-eq-GENERALIZED_TIME.true c.long_time.ensures
