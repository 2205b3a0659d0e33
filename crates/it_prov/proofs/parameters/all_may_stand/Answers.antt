use Rattle.std.proofs.Common.{◌↔◌, IsTrue, refl, string_bytes, subst, rules}
use Rattle.std.specs.Map.Iter.{deref_pair}
use Rattle.std.proofs.lemmas.Iterator.{cases_from_all}
use Rattle.std.proofs.lemmas.Iterator.Consumers.{YieldsList-from_rest}
use Rattle.it_prov.specs.inside.Judged.{MayStand, OfEachName}
use Rattle.it_prov.proofs.Trees.{Entry, of_each_name}
use Rattle.it_prov.proofs.parameters.all_may_stand.Goals as goal

pub returns : goal.returns
returns c =
    let may = MayStand c.args.expectation.now in
    subst (λ fields. IsTrue c.all.result ↔ OfEachName may fields) c.iter.ensures
    (of_each_name may c.all.result c.iter.result
    (cases_from_all _ _ c.all.result (λ (e : Entry). may (string_bytes e.0))
    (λ (e : Entry). ¬ may (string_bytes e.0)) c.all.ensures.ran
    (YieldsList-from_rest {shows = deref_pair} c.iter.result refl) (λ x q k. search rules)
    (λ x q k. search rules)))
