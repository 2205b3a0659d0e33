use Rattle.it_step_notes.proofs.Outcomes.{ok_some_weaker}
use Rattle.it_notes.proofs.Levels.{leads_further}
use Rattle.it_notes.proofs.fault_level.+level_below.Goals as goal

pub returns : goal.returns
returns g t c =
    ok_some_weaker _ _
    (λ below leads.
    leads_further _ c.args.level c.in-Some-2.next below c.args.at.now c.in-Some.rest.now
    c.in-Some.place.now c.in-Some.ensures.cases.0 (rw c.in-Some-2.is at c.in_ok-next.ensures)
    leads) c.level_below.result c.level_below.ensures
