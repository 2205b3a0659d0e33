use Rattle.std.proofs.Common.{[], refl, append_assoc, append-nil}
use Rattle.std.proofs.lemmas.List.{map-append, take_more}
use Rattle.std.proofs.lemmas.List.Concat.{flat_map-append}
use Rattle.it_log_entry.proofs.note.ended_lines.Goals as goal

pub loop-line-preserved : goal.loop-line-preserved
loop-line-preserved c =
    rw (
      c.in_ok-push.ensures.items,
      c.in_ok-extend_from_slice.ensures.items,
      c.loop-line.invariant,
      take_more c.args.lines.now c.loop-line.line-index (record {
        ref_ptr = (0, 0);
        now = [];
      }) c.loop-line-test.true,
      map-append,
      flat_map-append,
      append-nil,
      append_assoc,
    )
    refl
