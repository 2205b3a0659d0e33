use Rattle.std.proofs.Common.{[]}
use Rattle.it_der.proofs.Lengths.{some_bytes}
use Rattle.it_der.proofs.Reading.{begins_alone, not_alone}
use Rattle.it_der.proofs.front.content_of.Goals as goal

pub returns-in_default : goal.returns-in_default
returns-in_default c =
    λ content is. c.in_default.ensures c.args.tag content [] (begins_alone c.args.bytes.now c.args.tag content is)

pub returns-then-not-is_empty : goal.returns-then-not-is_empty
returns-then-not-is_empty c =
    let first = c.in-Some.first in
    let some = some_bytes first.rest.now c.is_empty.result c.is_empty.ensures c.if-not-is_empty.true in
    λ content is. not_alone c.args.bytes.now first.tag c.args.tag first.content.now content
    first.rest.now c.in-Some.ensures some is
