use Rattle.it_dsse.proofs.Panels.{check_at_place}
use Rattle.it_dsse.proofs.boxed.any_valid_in.Goals as goal

pub returns-clause-answer : goal.returns-clause-answer
returns-clause-answer g c =
    rw (check_at_place
    (λ check. (goal.SignatureCheck-dyn g (check.vtable, check.value)).meaning check.value)
    c.args.panel.now c.args.key.0 c.index-panel-place.result c.requires.placed
    c.index-panel-place.is) c.any_valid.ensures.answer

pub returns-clause-counted : goal.returns-clause-counted
returns-clause-counted g c =
    rw (check_at_place
    (λ check. (goal.SignatureCheck-dyn g (check.vtable, check.value)).meaning check.value)
    c.args.panel.now c.args.key.0 c.index-panel-place.result c.requires.placed
    c.index-panel-place.is) c.any_valid.ensures.counted
