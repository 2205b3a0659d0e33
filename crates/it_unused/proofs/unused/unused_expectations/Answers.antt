use Rattle.std.proofs.Common.{◌≡◌, ◌∙◌, Some, refl, sym}
use Rattle.std.specs.List.{slice_get}
use Rattle.std.proofs.lemmas.Bool.{false≢true}
use Rattle.std.proofs.lemmas.Option.{slice_get_read}
use Rattle.it_unused.proofs.Unusing.{all_unused, is_unused, so_far_more, so_far_skip}
use Rattle.it_unused.proofs.Unusing.{used_where_first, used_where_none}
use Rattle.it_unused.proofs.unused.unused_expectations.Goals as goal
use Rattle.it_unused.proofs.unused.unused_expectations.Goals.{
  then-not-contains+then-speaks_of_some+in_ok-push,
}
use Rattle.it_unused.proofs.unused.unused_expectations.Goals.{else-not-contains}
use Rattle.it_unused.proofs.unused.unused_expectations.Goals.{
  else-not-contains-via-then-not-contains+else-speaks_of_some,
}
use Rattle.it_unused.proofs.unused.unused_expectations.Goals.{
  else-not-contains-via-else-not-contains,
}

pub loop-place-preserved : goal.loop-place-preserved
loop-place-preserved c =
    let expectations = c.args.expectations.now in
    let delivered = c.args.delivered.now in
    let place = c.loop-place.place-counter in
    let unused = c.loop-place.unused.items in
    let expectation = c.index-expectations-place.result in
    let paths = c.in_ok-paths.paths.items in
    let whole = c.in_ok-paths.ensures.whole in
    let here : slice_get expectations place ≡ Some expectation =
    slice_get_read expectations _ place expectation refl c.loop-place-test.true
    c.index-expectations-place.is in
    let used = rw c.as_slice.ensures.value at (c.in_ok-used.ensures place) in
    elim c.if-not-contains.branch [
      | then-not-contains+then-speaks_of_some+in_ok-push w ↦
          let speaks = rw w.as_slice-then-not-contains.ensures.value at
          (w.speaks_of_some.ensures.0 w.if-speaks_of_some.true) in
          rw (w.unused-is, w.in_ok-push.ensures.items) (so_far_more expectations delivered place
          unused c.loop-place.invariant (is_unused expectations delivered place expectation here
          paths whole
          (λ first. false≢true (sym w.if-not-contains.true ∙ c.contains.ensures ∙ used.1 first))
          speaks))
      | else-not-contains w ↦ rw w.unused-is (so_far_skip expectations delivered place unused
          c.loop-place.invariant (elim w.else-not-contains.branch [
            | else-not-contains-via-then-not-contains+else-speaks_of_some v ↦
                used_where_none expectations delivered place expectation here paths whole
                (λ speaks. false≢true (sym v.if-speaks_of_some.false
                ∙ v.speaks_of_some.ensures.1
                (rw (← v.as_slice-then-not-contains.ensures.value) at speaks)))
            | else-not-contains-via-else-not-contains v ↦
                used_where_first expectations delivered place expectation here paths whole
                (used.0 (sym c.contains.ensures ∙ v.if-not-contains.false))
          ]))
    ]

pub returns : goal.returns
returns c =
    all_unused c.args.expectations.now c.args.delivered.now c.loop-place.place-counter
    c.loop-place.unused.items c.loop-place-test.false c.loop-place.invariant
