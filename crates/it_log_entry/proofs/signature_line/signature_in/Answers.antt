use Rattle.std.proofs.Common.{ap, length, arith}
use Rattle.it_log_entry.proofs.SignatureLines.{no_name_after, not_encoded, too_short}
use Rattle.it_log_entry.proofs.signature_line.signature_in.Goals as goal

pub returns-in_default-cut_after_name : goal.returns-in_default-cut_after_name
returns-in_default-cut_after_name c = λ signature.
    no_name_after c.args.line.now c.in-Some.named.now signature c.in-Some.ensures
    (rw c.in_default-cut_after_name.is at c.cut_after_name.ensures)

pub returns-in_default-2 : goal.returns-in_default-2
returns-in_default-2 c = λ signature.
    not_encoded c.args.line.now c.in-Some.named.now c.in-Some-cut_after_name.field-0-0.now
    c.in-Some-cut_after_name.encoded.now signature c.in-Some.ensures c.in-Some-cut_after_name.ensures
    (rw c.in_default-2.is at c.in_ok-signature.ensures.bytes)

pub returns-then-as_slice-lt-FEWEST_BYTES : goal.returns-then-as_slice-lt-FEWEST_BYTES
returns-then-as_slice-lt-FEWEST_BYTES c = λ signature.
    too_short c.args.line.now c.in-Some.named.now c.in-Some-cut_after_name.field-0-0.now
    c.in-Some-cut_after_name.encoded.now c.in-Some-2.signature signature c.in-Some.ensures
    c.in-Some-cut_after_name.ensures (rw c.in-Some-2.is at c.in_ok-signature.ensures.bytes) (omega (
      arith,
      ap length c.as_slice.ensures,
      c.if-as_slice-lt-FEWEST_BYTES.true,
    ))
