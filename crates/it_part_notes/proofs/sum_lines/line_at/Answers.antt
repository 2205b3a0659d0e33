use Rattle.std.proofs.Common.{arith}
use Rattle.it_part_notes.proofs.SumLines.{begins_after, begins_first}
use Rattle.it_part_notes.proofs.sum_lines.line_at.Goals as goal

pub loop-rest-init : goal.loop-rest-init
loop-rest-init c = record { so_far = begins_first c.args.bytes.now; in_range = omega arith }

pub loop-rest-preserved : goal.loop-rest-preserved
loop-rest-preserved c =
    let shorter = c.split_line.ensures.shorter in
    record {
      so_far = begins_after c.args.bytes.now c.loop-rest.rest.now c.split_line.result.0.now
          c.split_line.result.1.now c.loop-rest.next c.loop-rest.invariant.so_far
          c.split_line.ensures.lines;
      in_range = omega arith;
    }
