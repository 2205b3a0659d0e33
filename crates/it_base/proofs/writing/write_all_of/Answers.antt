use Rattle.std.proofs.Common.{arith, length-drop, ℕ}
use Rattle.it_base.proofs.Pieces.{appends_more}
use Rattle.it_base.proofs.writing.write_all_of.Goals as goal

pub loop-at-preserved : goal.loop-at-preserved
loop-at-preserved g c = record {
  within = omega (arith, c.in-Ok.ensures.bound, length-drop {A = ℕ});
  done = appends_more (g.W.Write.contents c.args.out.now) (g.W.Write.contents c.loop-at.out)
      (g.W.Write.contents c.write.new.self)
      c.args.bytes.now c.loop-at.at c.in-Ok.count c.loop-at.invariant.done c.in-Ok.ensures.bytes;
}
