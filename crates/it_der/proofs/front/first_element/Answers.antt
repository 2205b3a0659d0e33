use Rattle.it_der.proofs.Reading.{too_short}
use Rattle.it_der.proofs.front.first_element.Goals as goal

pub returns-then-length : goal.returns-then-length
returns-then-length c =
    λ tag content rest begins. too_short c.args.bytes.now c.in-Some.length.rest.now c.in-Some.length.number tag content rest c.in-Some.ensures.1 c.if-length.true begins
