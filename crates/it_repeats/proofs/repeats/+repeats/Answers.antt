use Rattle.std.proofs.Common.{◌∙◌, ◌+◌, ◌*◌, ◌<◌, length, get_or, sym, ap}
use Rattle.std.proofs.Common.{subst, arith, rules}
use Rattle.json.specs.Tree.{json_tokens, items_tokens, members_tokens}
use Rattle.json.specs.Value.{items_view, members_view, value_view}
use Rattle.json.proofs.Trees.{item_smaller, member_smaller}
use Rattle.it_repeats.proofs.SeenNames.{again_at, length-again_in}
use Rattle.it_repeats.proofs.Walking.{one_more}
use Rattle.it_repeats.proofs.repeats.+repeats.Goals as goal

pub items_repeats-repeats_in-requires : goal.items_repeats-repeats_in-requires
items_repeats-repeats_in-requires t c =
    let xs = c.deref-item-items.result.now in
    let x = c.item-item.result in
    let i = c.loop-number.number in
    let smaller : length (json_tokens (value_view x))
    < length (items_tokens (items_view c.args.items.now.items)) =
    subst (λ ys. length (json_tokens (value_view x)) < length (items_tokens (items_view ys)))
    c.deref-item-items.ensures.value
    (subst (λ y. length (json_tokens (value_view y)) < length (items_tokens (items_view xs)))
    (sym c.item-item.is) (item_smaller xs i x c.loop-number-test.true)) in
    let twice : 2 * length (json_tokens (value_view x))
    < 2 * length (items_tokens (items_view c.args.items.now.items)) = omega arith in
    search rules

pub members_repeats-index-requires : goal.members_repeats-index-requires
members_repeats-index-requires t c =
    let xs = c.args.members.now.items in
    let below = rw c.deref-member-items.ensures.value at c.loop-number-test.true in
    let long = ap length c.in_ok-again.ensures ∙ length-again_in xs in
    omega (arith, below, long)

pub members_repeats-one_repeats-requires : goal.members_repeats-one_repeats-requires
members_repeats-one_repeats-requires t c =
    let xs = c.deref-member-items.result.now in
    let x = c.member-item.result in
    let i = c.loop-number.number in
    let smaller : length (json_tokens (value_view x.1))
    < length (members_tokens (members_view c.args.members.now.items)) =
    subst (λ ys. length (json_tokens (value_view x.1)) < length (members_tokens (members_view ys)))
    c.deref-member-items.ensures.value
    (subst (λ y. length (json_tokens (value_view y.1)) < length (members_tokens (members_view xs)))
    (sym c.member-item.is) (member_smaller xs i x c.loop-number-test.true)) in
    let twice : 2 * length (json_tokens (value_view x.1)) + 1
    < 2 * length (members_tokens (members_view c.args.members.now.items)) = omega arith in
    search rules

pub members_repeats-loop-number-preserved : goal.members_repeats-loop-number-preserved
members_repeats-loop-number-preserved t c =
    let xs = c.args.members.now.items in
    let l = c.loop-number in
    let i = l.number in
    let x = c.member-item.result in
    let below = rw c.deref-member-items.ensures.value at c.loop-number-test.true in
    let here = rw c.deref-member-items.ensures.value at c.member-item.is in
    let told = c.index.ensures ∙ ap (λ bs. get_or bs i c.index.result.now) c.in_ok-again.ensures
    ∙ again_at xs i x c.index.result.now below here in
    record {
      place = c.in_ok-here.ensures.place ∙ l.invariant.place;
      all = one_more c.args.part c.args.place.now.items xs i x l.found.items c.in_ok-here.here.items
          c.append.new.self.items c.index.result.now l.place.items below here told
          c.in_ok-append.ensures.items l.invariant.place c.in_ok-here.ensures.found
          l.invariant.all;
    }
