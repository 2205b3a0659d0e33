use Rattle.std.proofs.Common.{[], get_or}
use Rattle.std.proofs.lemmas.List.{get_or_default}
use Rattle.it_base.proofs.Elements.{zip_more}
use Rattle.it_tables.specs.Outcome.{IsOutcomeOf}
use Rattle.it_tables.proofs.tables.run_lines.Goals as goal

pub loop-line-preserved : goal.loop-line-preserved
loop-line-preserved g c =
    let lines = c.args.lines.now in
    let i = c.loop-line.line-index in
    let line = get_or lines i (record { ref_ptr = (0, 0); now = [] }) in
    rw c.in_ok-push.ensures.items
    (zip_more (λ each. IsOutcomeOf g.T.Trial.is_difference each.now) lines i line
    c.loop-line.outcomes.items c.in-Ok.outcome c.loop-line-test.true
    (get_or_default lines i _ line c.loop-line-test.true) c.loop-line.invariant c.in-Ok.ensures)
