use Rattle.std.specs.List.{AllZip}
use Rattle.std.proofs.lemmas.Result.{IfOk-weaker}
use Rattle.it_strict.specs.Below.{AreFoundBelow, IsFoundBelow}
use Rattle.it_strict.proofs.below.found_below.Goals as goal

pub returns : goal.returns
returns g c =
    let panel = g.C.Checks.panel c.args.checks.now in
    let sublayouts = c.in_ok-sublayouts.sublayouts.items in
    IfOk-weaker c.found_in_each.result (λ found. AllZip IsFoundBelow sublayouts found.items)
    (λ found. AreFoundBelow panel c.args.inputs.now c.args.documents.now found.items)
    (λ found each. record {
      sublayouts = sublayouts;
      are_counted = c.in_ok-sublayouts.ensures;
      each = each;
    })
    c.found_in_each.ensures
