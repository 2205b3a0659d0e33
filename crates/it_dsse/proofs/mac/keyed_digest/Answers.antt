use Rattle.std.proofs.Common.{append_assoc}
use Rattle.it_message.proofs.Parts.{one_part_more}
use Rattle.it_dsse.proofs.mac.keyed_digest.Goals as goal

pub loop-part-preserved : goal.loop-part-preserved
loop-part-preserved c =
    rw (
      one_part_more c.args.message.now c.loop-part.part-index c.loop-part-test.true,
      ← append_assoc,
    )
    (c.update-in-loop-part.ensures _ c.loop-part.invariant)
