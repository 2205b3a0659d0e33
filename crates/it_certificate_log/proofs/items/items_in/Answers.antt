use Rattle.std.proofs.Common.{map, Bor, List, ℕ}
use Rattle.it_der.proofs.Lengths.{some_bytes}
use Rattle.it_certificate_log.proofs.Listing.{no_items}
use Rattle.it_certificate_log.proofs.items.items_in.Goals as goal

pub returns-in_default : goal.returns-in_default
returns-in_default c =
    let rest = c.loop-rest.rest.now in
    let some = some_bytes rest c.is_empty.result c.is_empty.ensures c.loop-rest-test.true in
    λ others are. no_items c.args.bytes.now rest (map (λ (i : Bor (List ℕ)). i.now) c.loop-rest.items.items) others
    c.loop-rest.invariant.each c.loop-rest.invariant.written some c.in_default.ensures are
