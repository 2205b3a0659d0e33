use Rattle.std.proofs.Common.{arith}
use Rattle.std.proofs.lemmas.List.{nil_from_length}
use Rattle.std.proofs.lemmas.Bool.Decides.{nat_tests}
use Rattle.it_notes.proofs.Levels.{top_reached}
use Rattle.it_notes.proofs.fault_level.level_reached.Goals as goal

pub returns-then-is_empty : goal.returns-then-is_empty
returns-then-is_empty c = λ panel known reached.
    top_reached panel c.args.known.now.inputs.now c.args.known.now c.args.at.now
    (nil_from_length c.args.at.now (grind (arith, nat_tests, c.if-is_empty.ensures))) known
