use Rattle.std.proofs.Common.{◌≤◌, ◌++◌, length, sym, arith}
use Rattle.std.proofs.lemmas.List.{length-take-le}
use Rattle.it_numbers.specs.Bytes.{big_bytes}
use Rattle.it_p384.proofs.Infos.{both_long, info_read}
use Rattle.it_p384.proofs.key.PublicKey.from_info.Goals as goal

pub returns-in_default : goal.returns-in_default
returns-in_default c = λ key good e. c.in_default.ensures (big_bytes 48 key.x ++ big_bytes 48 key.y) (both_long key) e

pub slice_bounds-key_at-end : goal.slice_bounds-key_at-end
slice_bounds-key_at-end c =
    let bytes = c.in-Some.coordinates.now in
    let long = c.in-Some.ensures.0 in
    sym (length-take-le 48 bytes (let h : 48 ≤ length bytes = omega arith in h))

pub key_at-requires-clause-x_length : goal.key_at-requires-clause-x_length
key_at-requires-clause-x_length c =
    let bytes = c.in-Some.coordinates.now in
    let long = c.in-Some.ensures.0 in
    length-take-le 48 bytes (let h : 48 ≤ length bytes = omega arith in h)

pub returns : goal.returns
returns c = info_read c.args.info.now c.in-Some.coordinates.now _ c.in-Some.ensures.0 c.in-Some.ensures.1 c.key_at.ensures
