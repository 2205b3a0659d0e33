use Rattle.std.proofs.lemmas.Result.{IfOk-weaker}
use Rattle.it_strict.specs.Counting.{AreCounting, LayoutCounting}
use Rattle.it_strict.proofs.counting.counting_findings.Goals as goal

pub returns : goal.returns
returns c =
    IfOk-weaker c.counting_of.result
    (λ counting. AreCounting c.args.steps.now c.in_ok-all.all.items counting.items)
    (λ counting. LayoutCounting c.args.payload.now c.args.layout.now c.args.steps.now
    counting.items)
    (λ counting counts. record {
      members = c.in_ok-members.members.items;
      nulls = c.in_ok-nulls.nulls.items;
      places = c.in_ok-places.places.items;
      all = c.in_ok-all.all.items;
      are_members = rw c.in_ok-text.ensures at c.in_ok-members.ensures;
      are_nulls = rw c.in_ok-text.ensures at c.in_ok-nulls.ensures;
      are_places = rw c.in_ok-text.ensures at c.in_ok-places.ensures;
      are_all = rw (c.as_slice.ensures.value, c.as_slice-2.ensures.value, c.as_slice-3.ensures.value)
          at c.in_ok-all.ensures;
      are_counting = counts;
    })
    c.counting_of.ensures
