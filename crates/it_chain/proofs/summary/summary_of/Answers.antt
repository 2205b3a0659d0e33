use Rattle.std.proofs.Common.{◌≡◌, ◌∙◌, [], ◌∷◌, ◌++◌, ap, sym}
use Rattle.std.specs.Vec.Iter.{into_iter_items}
use Rattle.it_chain.proofs.Summaries.{summary_between}
use Rattle.it_chain.proofs.summary.summary_of.Goals as goal

pub returns : goal.returns
returns c =
    let first = c.in-Some-next.first in
    let last = c.in-Some.last in
    let between = into_iter_items c.next.new.self in
    let split : c.args.results.items ≡ (first ∷ between) ++ (last ∷ []) = c.in-Some.ensures.items
    ∙ ap (λ rs. rs ++ (last ∷ [])) (sym c.into_iter.ensures.rest ∙ c.in-Some-next.ensures.items) in
    sym (summary_between c.args.results.items first last between split)
