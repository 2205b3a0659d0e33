use Rattle.std.proofs.Common.{◌≡◌, ◌≢◌, ◌∙◌, sym, ap, subst, refl, arith, Contains}
use Rattle.std.proofs.lemmas.Option.{slice_get_read}
use Rattle.std.proofs.lemmas.Slice.Eq.{bytes_eq-Decides}
use Rattle.it_rules.specs.declared.item.Named.{Named}
use Rattle.it_rules.specs.Item.{links_of, recorded_of}
use Rattle.it_rules.proofs.Listed.{Contains-map, Contains-map_cases, places_more, slice_get_within}
use Rattle.it_rule_notes.proofs.missed.link_named.Goals as goal

pub returns-then-eq : goal.returns-then-eq
returns-then-eq c =
    let here = slice_get_read c.args.links.now _ c.loop-link.link-index c.link-item.result refl
    c.loop-link-test.true c.link-item.is in
    let name : c.link-item.result.name.now ≡ c.args.name.now =
    (bytes_eq-Decides _ _).0 (sym c.eq.ensures ∙ c.if-eq.true) in
    subst (λ n. Contains (links_of c.args.links.now) (n, recorded_of c.link-item.result.item))
    name (Contains-map (λ (link : Named). (link.name.now, recorded_of link.item))
    c.args.links.now c.loop-link.link-index c.link-item.result here)

pub loop-link-preserved : goal.loop-link-preserved
loop-link-preserved c =
    let here = slice_get_read c.args.links.now _ c.loop-link.link-index c.link-item.result refl
    c.loop-link-test.true c.link-item.is in
    let other : c.link-item.result.name.now ≢ c.args.name.now =
    λ e. (let same = (bytes_eq-Decides _ _).1 e in cc (same, c.eq.ensures, c.if-eq.false)) in
    places_more (λ (link : Named). link.name.now ≢ c.args.name.now) c.args.links.now
    c.loop-link.link-index c.link-item.result c.loop-link.invariant here other

pub returns : goal.returns
returns c = λ item h.
    let p = Contains-map_cases (λ (link : Named). (link.name.now, recorded_of link.item))
    c.args.links.now (c.args.name.now, item) h in
    let within = slice_get_within c.args.links.now p.0 p.1 p.2 in
    c.loop-link.invariant p.0 p.1 (omega arith) p.2 (ap (λ q. q.0) p.3)
