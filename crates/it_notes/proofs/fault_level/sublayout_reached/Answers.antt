use Rattle.it_step_notes.proofs.Outcomes.{ok_some_weaker}
use Rattle.it_notes.proofs.Levels.{leads_further, no_steps_below}
use Rattle.it_notes.proofs.fault_level.sublayout_reached.Goals as goal

pub returns : goal.returns
returns g c =
    let panel = g.C.Checks.panel c.args.checks.now in
    let known = c.args.known.now in
    let next = c.in-Some-2.next in
    let is_below = rw c.in-Some-2.is at c.in_ok-next.ensures in
    ok_some_weaker _ _
    (λ level leads. record {
      is_level = record {
        top = known.top;
        is_top = c.requires.top;
        leads = leads_further panel known.top next level c.args.at.now c.in-Some.rest.now
            c.in-Some.place.now c.in-Some.ensures.cases.0 is_below leads;
      };
      steps = no_steps_below panel known.inputs.now.depth next c.in-Some.rest.now level
          is_below.no_steps leads;
    }) c.level_below.result c.level_below.ensures
