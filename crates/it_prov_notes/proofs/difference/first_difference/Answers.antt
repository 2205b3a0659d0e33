use Rattle.std.proofs.Common.{Some}
use Rattle.std.proofs.lemmas.Result.{IfOk-weaker}
use Rattle.it_base.specs.JsonView.{json_of}
use Rattle.it_prov_notes.specs.inside.Inner.{seen}
use Rattle.it_prov_notes.proofs.Inside.{further, told_of}
use Rattle.it_prov_notes.proofs.difference.first_difference.Goals as goal

pub loop-preserved : goal.loop-preserved
loop-preserved c =
    let l = c.loop.invariant in
    let outer = c.loop.values in
    let name = c.in-Some.inner.name.now in
    let inner = c.in-Some.inner.values in
    let are = c.in-Some.ensures in
    record {
      given = rw (c.in_ok-push.ensures.items, c.in_ok-copy.ensures)
          (further c.loop.place.items name (Some (json_of c.args.given.now)) (seen outer.given)
          (seen inner.given) l.given are.given_is);
      wanted = rw (c.in_ok-push.ensures.items, c.in_ok-copy.ensures)
          (further c.loop.place.items name (Some (json_of c.args.wanted.now))
          (seen outer.wanted) (seen inner.wanted) l.wanted are.wanted_is);
      differ = are.differ;
    }

pub returns-in_default : goal.returns-in_default
returns-in_default c =
    IfOk-weaker c.difference_at.result _ _
    (told_of (json_of c.args.given.now) (json_of c.args.wanted.now) c.loop.place.items
    (seen c.loop.values.given) (seen c.loop.values.wanted) c.loop.invariant.given
    c.loop.invariant.wanted c.loop.invariant.differ) c.difference_at.ensures

pub returns : goal.returns
returns c =
    IfOk-weaker c.difference_at-2.result _ _
    (told_of (json_of c.args.given.now) (json_of c.args.wanted.now) c.loop.place.items
    (seen c.loop.values.given) (seen c.loop.values.wanted) c.loop.invariant.given
    c.loop.invariant.wanted c.loop.invariant.differ) c.difference_at-2.ensures
