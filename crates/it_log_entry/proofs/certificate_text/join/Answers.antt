use Rattle.std.proofs.Common.{[], refl}
use Rattle.std.proofs.lemmas.List.{take_more, map-append, append-nil}
use Rattle.std.proofs.lemmas.List.Folds.{concat-append}
use Rattle.it_log_entry.proofs.certificate_text.join.Goals as goal

pub loop-line-preserved : goal.loop-line-preserved
loop-line-preserved c =
    rw (
      c.in_ok-extend_from_slice.ensures.items,
      c.as_bytes.ensures.value,
      c.loop-line.invariant,
      take_more c.args.lines.now c.loop-line.line-index (record {
        ref_ptr = (0, 0);
        now = [];
      }) c.loop-line-test.true,
      map-append,
      concat-append,
      append-nil,
    )
    refl
