use Rattle.it_certificate.proofs.Using.{of_two, of_three}
use Rattle.it_certificate.proofs.usage.usage_in.Goals as goal

pub returns-then-content-eq2 : goal.returns-then-content-eq2
returns-then-content-eq2 c = of_two c.args.content.now c.usage_of.result c.if-content-eq2.true c.usage_of.ensures

pub returns-then-content-eq3 : goal.returns-then-content-eq3
returns-then-content-eq3 c =
    of_three c.args.content.now c.usage_of-then-content-eq3.result c.if-content-eq3.true c.usage_of-then-content-eq3.ensures
