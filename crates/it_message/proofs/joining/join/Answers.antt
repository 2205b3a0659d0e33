use Rattle.std.proofs.Common.{refl}
use Rattle.it_message.proofs.Parts.{one_part_more}
use Rattle.it_message.proofs.joining.join.Goals as goal

pub loop-part-preserved : goal.loop-part-preserved
loop-part-preserved c =
    rw (
      c.in_ok-extend_from_slice.ensures.items,
      c.loop-part.invariant,
      one_part_more c.args.parts.now c.loop-part.part-index c.loop-part-test.true,
    )
    refl
