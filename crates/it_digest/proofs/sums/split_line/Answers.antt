use Rattle.std.proofs.Common.{sym, arith}
use Rattle.std.proofs.lemmas.Grind.{common_steps}
use Rattle.it_digest.proofs.SumsLemmas.{lines_of-at, lines_of-none}
use Rattle.it_digest.proofs.sums.split_line.Goals as goal

pub returns-in-Some-clause-lines : goal.returns-in-Some-clause-lines
returns-in-Some-clause-lines c = let e = lines_of-at c.args.text.now c.in-Some.end c.requires
    (sym c.in-Some.ensures) in grind (arith, common_steps, e)

pub returns-in-None-clause-lines : goal.returns-in-None-clause-lines
returns-in-None-clause-lines c = lines_of-none c.args.text.now c.requires (sym c.in-None.ensures)
