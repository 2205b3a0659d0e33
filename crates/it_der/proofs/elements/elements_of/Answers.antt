use Rattle.std.proofs.Common.{map}
use Rattle.it_der.specs.Element.{tagged_of}
use Rattle.it_der.proofs.Lengths.{some_bytes}
use Rattle.it_der.proofs.Reading.{no_elements}
use Rattle.it_der.proofs.elements.elements_of.Goals as goal

pub returns-in_default : goal.returns-in_default
returns-in_default c =
    let rest = c.loop-rest.rest.now in
    let some = some_bytes rest c.is_empty.result c.is_empty.ensures c.loop-rest-test.true in
    λ others are. no_elements c.args.bytes.now rest (map tagged_of c.loop-rest.elements.items) others
    c.loop-rest.invariant.short c.loop-rest.invariant.written some c.in_default.ensures are
