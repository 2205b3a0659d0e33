use Rattle.std.proofs.Common.{codes}
use Rattle.it_base.proofs.Pieces.{beginning_after}
use Rattle.it_dsse.specs.Written.{written_form}
use Rattle.it_commands.proofs.sign_output.put_line.Goals as goal

pub returns-in-Ok-clause-write : goal.returns-in-Ok-clause-write
returns-in-Ok-clause-write g c = λ failed.
    let contents = g.W.Write.contents in
    beginning_after (contents c.args.out.now) (contents c.write.new.out)
    (contents c.put_line_feed.new.out)
    (written_form c.args.envelope.now) (codes "\n") c.in-Ok.ensures.ok
    (rw failed at c.put_line_feed.ensures.err).1
