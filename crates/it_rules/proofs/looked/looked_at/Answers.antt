use Rattle.std.proofs.Common.{◌≡◌, ◌∙◌, [], ◌∷◌, Contains, ap}
use Rattle.it_rules.specs.Item.{links_of, recorded_of}
use Rattle.it_rules.proofs.LookedAt.{claims_alone, claims_none}
use Rattle.it_rules.proofs.looked.looked_at.Goals as goal

pub returns-in-Some-clause-same : goal.returns-in-Some-clause-same
returns-in-Some-clause-same c = λ side item path.
    let linked = recorded_of c.in-Some.link.now.item in
    let named : Contains (links_of c.args.links.now) (c.in-Match.from, linked) =
    rw c.as_str.ensures at c.in-Some.ensures.1 in
    let alone : links_of c.from_ref.result.now ≡ (c.in-Match.from, linked) ∷ [] =
    ap links_of c.from_ref.ensures.value
    ∙ ap (λ name. (name, linked) ∷ []) (c.in-Some.ensures.0 ∙ c.as_str.ensures) in
    rw (c.in-Match.is, alone) (claims_alone _ _ _ _ _ _ _ (links_of c.args.links.now) linked
    c.requires named)

pub returns-in-None-clause-same : goal.returns-in-None-clause-same
returns-in-None-clause-same c = λ side item path.
    rw c.in-Match.is (claims_none _ _ _ _ _ _ _ (links_of c.args.links.now)
    (rw c.as_str.ensures at c.in-None.ensures))
