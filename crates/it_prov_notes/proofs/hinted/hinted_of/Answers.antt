use Rattle.it_prov_notes.proofs.HintedKeys.{hinted_found}
use Rattle.it_prov_notes.proofs.hinted.hinted_of.Goals as goal

pub returns-then-is_some : goal.returns-then-is_some
returns-then-is_some g c = λ builders is_one.
    hinted_found (g.C.Checks.panel c.args.checks.now) builders c.args.builder.now
    c.args.envelope.now c.in-Some-named_key.key.id.now c.in-Some-named_key.key.object.now
    c.in_ok-found.found is_one c.in-Some-named_key.ensures c.in_ok-found.ensures
