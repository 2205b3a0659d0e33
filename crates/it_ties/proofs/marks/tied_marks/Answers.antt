use Rattle.std.proofs.Common.{◌≡◌, ◌<◌, ◌+◌, ◌-◌, ◌++◌, ◌∷◌, ◌∙◌, ap, arith, drop, length, refl}
use Rattle.std.proofs.Common.{Some, subst, take}
use Rattle.std.proofs.Math.Seq.{take-append_seam}
use Rattle.std.proofs.lemmas.List.{drop_more}
use Rattle.std.proofs.lemmas.Option.{get_or_from_slice_get, slice_get_read}
use Rattle.std.specs.List.{slice_get}
use Rattle.it_rules.specs.Item.{links_of, recorded_of}
use Rattle.it_ties.proofs.Marking.{tied_before}
use Rattle.it_ties.proofs.marks.tied_marks.Goals as goal

pub loop-left-preserved : goal.loop-left-preserved
loop-left-preserved c =
    let rules = c.args.rules.now in
    let rule = c.index-rules-left.result in
    let at = c.loop-left.left - 1 in
    let within : at < length rules = omega arith in
    let here : slice_get rules at ≡ Some rule =
    slice_get_read rules _ at rule refl within c.index-rules-left.is in
    let next : at + 1 ≡ c.loop-left.left = omega arith in
    let rest : drop at rules ≡ rule ∷ drop c.loop-left.left rules =
    rw (get_or_from_slice_get rules at rule rule here, next) at (drop_more rules at rule within) in
    let new = c.mark.new.tied in
    let len : length new ≡ c.loop-left.tied.len =
    omega (arith, c.mark.auto.tied, c.deref_mut.ensures.len) in
    let whole : take c.loop-left.tied.len (new ++ drop (length new) c.loop-left.tied.items) ≡ new =
    subst (λ n. take n (new ++ drop (length new) c.loop-left.tied.items) ≡ new) len
    (take-append_seam new _) in
    let marked = rw c.deref_mut.ensures.value at c.in_ok-mark.ensures in
    rw (whole, rest) (record {
      within = omega arith;
      lengths = c.mark.auto.tied ∙ ap length c.deref_mut.ensures.value
          ∙ c.loop-left.invariant.lengths;
      tied = tied_before c.args.tying.now.steps.now (recorded_of c.args.tying.now.item.now)
          (links_of c.args.tying.now.links.now) c.args.paths.now rule
          (drop c.loop-left.left rules) c.loop-left.tied.items new c.requires.paths
          c.loop-left.invariant.tied marked;
    })

pub returns-clause-tied : goal.returns-clause-tied
returns-clause-tied c =
    let none : c.loop-left.left ≡ 0 = omega arith in
    rw none at c.loop-left.invariant.tied
