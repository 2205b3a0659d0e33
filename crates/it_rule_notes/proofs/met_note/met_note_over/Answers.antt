use Rattle.std.proofs.Common.{◌∙◌, ap}
use Rattle.it_rule_notes.proofs.met_note.met_note_over.Goals as goal

pub returns : goal.returns
returns c = (
  c.in_ok-place.ensures,
  record {
    step = c.in-Some.step.now;
    is_step = c.in-Some.ensures.0;
    item_is = ap (λ p. p.item) c.in_ok-place.ensures ∙ c.in-Some.ensures.1;
    meets = rw c.in_ok-place.ensures (rw c.in-Some-2.is at c.in_ok-met.ensures);
  },
)
