use Rattle.std.proofs.Common.{arith}
use Rattle.it_der.proofs.Lengths.{no_form, no_bytes, some_bytes, short_read, begins_with}
use Rattle.it_der.proofs.Lengths.{one_read, two_read, none_read}
use Rattle.it_der.proofs.length.length_in.Goals as goal

pub returns-then-is_empty : goal.returns-then-is_empty
returns-then-is_empty c =
    let bytes = c.args.bytes.now in
    no_form bytes (no_bytes bytes c.is_empty.result c.is_empty.ensures c.if-is_empty.true)

pub returns-then-first-lt128 : goal.returns-then-first-lt128
returns-then-first-lt128 c =
    let bytes = c.args.bytes.now in
    let some = some_bytes bytes c.is_empty.result c.is_empty.ensures c.if-is_empty.false in
    let below = c.if-first-lt128.true in
    (omega arith, short_read bytes some below)

pub returns-then-first : goal.returns-then-first
returns-then-first c =
    let bytes = c.args.bytes.now in
    let some = some_bytes bytes c.is_empty.result c.is_empty.ensures c.if-is_empty.false in
    one_read bytes _ c.in_one_byte.result (begins_with bytes 129 some c.if-first.true)
    c.in_one_byte.ensures

pub returns-then-first-2 : goal.returns-then-first-2
returns-then-first-2 c =
    let bytes = c.args.bytes.now in
    let some = some_bytes bytes c.is_empty.result c.is_empty.ensures c.if-is_empty.false in
    two_read bytes _ c.in_two_bytes.result (begins_with bytes 130 some c.if-first-2.true)
    c.in_two_bytes.ensures

pub returns : goal.returns
returns c =
    let bytes = c.args.bytes.now in
    let some = some_bytes bytes c.is_empty.result c.is_empty.ensures c.if-is_empty.false in
    none_read bytes some c.if-first-lt128.false c.if-first.false c.if-first-2.false
