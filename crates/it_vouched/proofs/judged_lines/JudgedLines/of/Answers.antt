use Rattle.it_digest.specs.Sums.{lines_of}
use Rattle.it_vouched.proofs.Lines.{each_identity}
use Rattle.it_vouched.proofs.judged_lines.JudgedLines.of.Goals as goal

pub new-requires : goal.new-requires
new-requires c = each_identity c.args.trust.now (lines_of c.args.provenance.now) c.in_ok-all.field-0.all.items c.in_ok-all.ensures.vouched
