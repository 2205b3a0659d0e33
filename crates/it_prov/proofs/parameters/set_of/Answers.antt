use Rattle.std.proofs.Common.{◌≡◌, ◌∙◌, ◌+◌, ◌++◌, ◌∷◌, [], take, sym, ap}
use Rattle.std.proofs.lemmas.List.{take_more}
use Rattle.it_prov.proofs.NameSets.{has_more, has_none}
use Rattle.it_prov.proofs.parameters.set_of.Goals as goal

pub loop-name-init : goal.loop-name-init
loop-name-init c = has_none c.new-set.result c.new-set.ensures.empty

pub loop-name-preserved : goal.loop-name-preserved
loop-name-preserved c =
    let i = c.loop-name.name-index in
    let names = c.args.names.now in
    let more : take (i + 1) names ≡ take i names ++ c.as_str.result.now ∷ [] =
    take_more names i c.name-item.result c.loop-name-test.true
    ∙ ap (λ x. take i names ++ x ∷ []) (sym c.name-item.is ∙ sym c.as_str.ensures) in
    rw more (has_more (take i names) c.loop-name.set _ c.as_str.result c.in_ok-insert.ensures.keys
    c.loop-name.invariant)
