use Rattle.std.proofs.Common.{◌∙◌, sym}
use Rattle.it_rule_notes.proofs.disagree_note.disagree_note.Goals as goal

pub returns : goal.returns
returns g c = (
  c.in_ok-step.ensures,
  record {
    step = c.in-Some.asked.now;
    is_step = rw c.as_slice.ensures at c.in-Some.ensures.0;
    step_is = c.in-Some.ensures.1 ∙ sym c.in_ok-step.ensures;
    first = rw c.in-Some-2.is at c.in_ok-first.ensures;
    second = rw c.in-Some-3.is at c.in_ok-second.ensures;
  },
)
