use Rattle.it_prov.proofs.Saying.{unread_reached}
use Rattle.it_prov.proofs.Searching.{stands_in}
use Rattle.it_prov.proofs.reached.level_reached.Goals as goal

pub returns-in-Some : goal.returns-in-Some
returns-in-Some c = λ panel expectations envelope stands holds digests has.
    c.level_of_statement.ensures panel expectations envelope stands (rw c.in-Some.is at holds)
    digests (rw c.in-Some.is at has)

pub returns-in-None : goal.returns-in-None
returns-in-None c = λ panel expectations envelope stands holds digests has.
    let expectation = c.args.sought.now.expectation.now in
    unread_reached panel expectations expectation
    (stands_in expectations c.args.sought.now.place expectation stands) digests envelope
    c.args.meter.now (rw c.in-None.is at holds)
