use Rattle.std.proofs.Common.{◌+◌, ◌*◌, replicate, slice_index, arith, ap, sym, ◌∙◌}
use Rattle.std.proofs.lemmas.List.{length-replicate, length-set}
use Rattle.std.specs.Result.{result_ok}
use Rattle.hex.specs.Hex.{decode_sized}
use Rattle.hex.proofs.Pairs.{decode_done, decode_start, decode_step, decode_sized-pairs}
use Rattle.it_digest.proofs.DigitPairs.{pair_read, pair_refused}
use Rattle.it_digest.proofs.digits.bytes_of.Goals as goal

pub loop-place-init : goal.loop-place-init
loop-place-init g c = record {
  room = length-replicate g.row.N 0;
  read = decode_start c.as_bytes-digits.result.now (replicate g.row.N 0);
}

pub returns-in_err-bytes : goal.returns-in_err-bytes
returns-in_err-bytes g c =
    let s = c.as_bytes-digits.result.now in
    c.from_residual.ensures ∙ pair_refused s c.loop-place.bytes c.loop-place.place (omega arith)
    (sym c.in_err-bytes.was ∙ c.byte_of.ensures) c.loop-place.invariant.read
    ∙ ap result_ok (sym (decode_sized-pairs s g.row.N c.if-digits-ne0.false c.if-digits.false)
    ∙ ap (λ s. decode_sized s g.row.N) c.as_bytes-digits.ensures.value)

pub loop-place-preserved : goal.loop-place-preserved
loop-place-preserved g c =
    let so_far = c.loop-place.invariant in
    let s = c.as_bytes-digits.result.now in
    let first = 2 * c.loop-place.place in
    record {
      room = length-set c.loop-place.bytes c.loop-place.place c.in_ok-bytes.field-0 ∙ so_far.room;
      read = decode_step s c.loop-place.bytes c.loop-place.place
          c.in_ok-bytes.field-0 (omega arith) (omega (arith, so_far.room))
          (pair_read (slice_index s first) (slice_index s (first + 1)) first c.in_ok-bytes.field-0
          (sym c.in_ok-bytes.was ∙ c.byte_of.ensures)) so_far.read;
    }

pub returns : goal.returns
returns g c =
    let s = c.as_bytes-digits.result.now in
    let so_far = c.loop-place.invariant in
    ap result_ok (sym (decode_done s c.loop-place.bytes c.loop-place.place
    (omega (arith, so_far.room)) (omega arith) so_far.read)
    ∙ sym (decode_sized-pairs s g.row.N c.if-digits-ne0.false c.if-digits.false)
    ∙ ap (λ s. decode_sized s g.row.N) c.as_bytes-digits.ensures.value)
