use Rattle.std.proofs.Common.{arith, sym, take_all}
use Rattle.it_notes.proofs.inspections.front_of.Goals as goal

pub returns-then-records-le-MOST_NAMES : goal.returns-then-records-le-MOST_NAMES
returns-then-records-le-MOST_NAMES c = sym (take_all 10 c.args.records.now (omega arith))
