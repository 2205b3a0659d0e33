use Rattle.std.proofs.Common.{arith}
use Rattle.it_prov.proofs.ReadLines.{read_kept, read_none}
use Rattle.it_prov.proofs.provenance_lines.ProvenanceLines.read.Goals as goal

pub loop-rest-preserved-in_ok-push-2 : goal.loop-rest-preserved-in_ok-push-2
loop-rest-preserved-in_ok-push-2 c =
    let shorter = c.split_line.ensures.shorter in
    record {
      so_far = rw (c.in_ok-push.ensures.items, c.in_ok-push-2.ensures.items)
          (read_kept c.args.provenance.now c.loop-rest.rest.now c.split_line.result.1.now
          c.split_line.result.0.now c.loop-rest.place c.loop-rest.envelopes.items
          c.loop-rest.places.items c.loop-rest.invariant.so_far c.split_line.ensures.lines
          c.in-Some.envelope (rw c.in-Some.is at c.in_ok-envelope.ensures));
      in_range = omega arith;
    }

pub loop-rest-preserved : goal.loop-rest-preserved
loop-rest-preserved c =
    let shorter = c.split_line.ensures.shorter in
    record {
      so_far = read_none c.args.provenance.now c.loop-rest.rest.now c.split_line.result.1.now
          c.split_line.result.0.now c.loop-rest.place c.loop-rest.envelopes.items
          c.loop-rest.places.items c.loop-rest.invariant.so_far c.split_line.ensures.lines
          (rw c.in_default.is at c.in_ok-envelope.ensures);
      in_range = omega arith;
    }
