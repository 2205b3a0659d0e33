use Rattle.it_message.proofs.Parts.{one_part_more}
use Rattle.it_message.proofs.digests.message_sha256.Goals as goal

pub loop-part-preserved : goal.loop-part-preserved
loop-part-preserved c =
    rw (one_part_more c.args.message.now c.loop-part.part-index c.loop-part-test.true)
    (c.update.ensures _ c.loop-part.invariant)
