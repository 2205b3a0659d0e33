use Rattle.std.proofs.Common.{rules, sym, subst, ◌∙◌, ap, IsPermutation}
use Rattle.std.proofs.lemmas.List.Sorted.{IsNonDecreasingBy-from_sort_by_key}
use Rattle.std.proofs.lemmas.Result.{IfOk-weaker}
use Rattle.it_glob.specs.inside.Ranges.{AreSearchable, widened}
use Rattle.it_glob.proofs.Widened.{searchable}
use Rattle.it_glob.proofs.ranges.ranges_of.Goals as goal

pub returns : goal.returns
returns c =
    let body = c.args.body.now in
    let sorted = c.sort_unstable_by_key.new.self.items in
    let rises = IsNonDecreasingBy-from_sort_by_key (λ r. r.first) sorted
    c.sort_unstable_by_key.ensures.sorted (λ a r q k. search rules) in
    let moved = subst (λ l. IsPermutation l sorted) c.in_ok-ranges.ensures
    c.sort_unstable_by_key.ensures.permutation in
    IfOk-weaker _ _ _
    (λ wide is. subst (AreSearchable body) (sym (is ∙ ap (widened 0) c.as_slice.ensures.value))
    (searchable body sorted moved rises)) c.widen.ensures
