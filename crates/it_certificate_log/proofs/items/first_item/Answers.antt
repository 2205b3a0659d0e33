use Rattle.it_der.proofs.Lengths.{no_bytes}
use Rattle.it_certificate_log.proofs.Listing.{empty_front}
use Rattle.it_certificate_log.proofs.items.first_item.Goals as goal

pub returns-then-is_empty : goal.returns-then-is_empty
returns-then-is_empty c = λ item after is.
    let front = c.in_ok-front.front in
    empty_front c.args.bytes.now front.bytes.now front.rest.now item after c.in_ok-front.ensures
    (no_bytes front.bytes.now c.is_empty.result c.is_empty.ensures c.if-is_empty.true) is
