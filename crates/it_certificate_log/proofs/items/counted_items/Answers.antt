use Rattle.std.proofs.Common.{[]}
use Rattle.std.proofs.lemmas.List.{nil_from_length}
use Rattle.std.specs.List.{flat_map}
use Rattle.it_der.proofs.Lengths.{no_bytes, some_bytes}
use Rattle.it_certificate_log.specs.Counted.{counted}
use Rattle.it_certificate_log.proofs.Listing.{list_begins, list_items, more_follow, other_count, list_is}
use Rattle.it_certificate_log.proofs.Listing.{not_few, few_shown, shown}
use Rattle.it_certificate_log.proofs.items.counted_items.Goals as goal

pub returns-in_default : goal.returns-in_default
returns-in_default c = λ items is. c.in_default.ensures (flat_map counted items) [] (list_begins c.args.content.now items is)

pub returns-then-not-is_empty : goal.returns-then-not-is_empty
returns-then-not-is_empty c = λ items is.
    let front = c.in-Some.front in
    more_follow c.args.content.now front.bytes.now front.rest.now items c.in-Some.ensures
    (some_bytes front.rest.now c.is_empty.result c.is_empty.ensures c.if-not-is_empty.true) is

pub returns-in_default-2 : goal.returns-in_default-2
returns-in_default-2 c = λ items is.
    let front = c.in-Some.front in
    (rw c.in_default-2.is at c.in_ok-items.ensures) items
    (list_items c.args.content.now front.bytes.now front.rest.now items c.in-Some.ensures is).0

pub returns-then-not-are_few : goal.returns-then-not-are_few
returns-then-not-are_few c = λ items is.
    let front = c.in-Some.front in
    let xs = c.in-Some-2.items.items in
    other_count c.args.content.now front.bytes.now front.rest.now (shown xs) items c.in-Some.ensures
    (rw c.in-Some-2.is at c.in_ok-items.ensures)
    (not_few xs c.are_few.result (rw c.deref.ensures.value at c.are_few.ensures) c.if-not-are_few.true) is

pub returns : goal.returns
returns c =
    let front = c.in-Some.front in
    let xs = c.in-Some-2.items.items in
    list_is c.args.content.now front.bytes.now front.rest.now (shown xs) c.in-Some.ensures
    (nil_from_length front.rest.now (no_bytes front.rest.now c.is_empty.result c.is_empty.ensures c.if-not-is_empty.false))
    (rw c.in-Some-2.is at c.in_ok-items.ensures)
    (few_shown xs c.are_few.result (rw c.deref.ensures.value at c.are_few.ensures) c.if-not-are_few.false)
