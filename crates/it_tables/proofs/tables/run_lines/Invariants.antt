use Rattle.std.proofs.Common.{take}
use Rattle.std.specs.List.{AllZip}
use Rattle.it_tables.specs.Outcome.{IsOutcomeOf}
use Rattle.it_tables.proofs.tables.run_lines.Given as goal

-- the outcomes of the lines so far
abbrev pub invariant-loop-line : goal.invariant-loop-line
invariant-loop-line g l = AllZip (λ line. IsOutcomeOf g.T.Trial.is_difference line.now)
    (take l.line-index l.lines) l.outcomes.items
