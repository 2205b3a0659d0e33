use Rattle.std.proofs.Common.{arith, sym, take_all}
use Rattle.it_prov_notes.proofs.patterns.front_of.Goals as goal

pub returns-then-expectations-le-MOST_PATTERNS : goal.returns-then-expectations-le-MOST_PATTERNS
returns-then-expectations-le-MOST_PATTERNS c = sym (take_all 10 c.args.expectations.now (omega arith))
