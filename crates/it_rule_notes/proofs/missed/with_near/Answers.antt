use Rattle.it_rule_notes.specs.inside.JudgedRules.{judging_in}
use Rattle.it_rule_notes.proofs.Missing.{nearer_missed}
use Rattle.it_rule_notes.proofs.missed.with_near.Goals as goal

pub returns : goal.returns
returns c = λ index path is.
    nearer_missed (judging_in c.args.judged.now) index path c.args.missed c.in_ok-near.near
    c.nearer-miss.result c.nearer-miss.ensures c.in_ok-near.ensures is
