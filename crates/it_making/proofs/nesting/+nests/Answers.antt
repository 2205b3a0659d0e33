use Rattle.std.proofs.Common.{rules, ◌≡◌, ◌≤◌, [], ◌∷◌, ◌++◌, true, false, refl, sym, ap, ◌∙◌, subst}
use Rattle.std.proofs.Common.{append_assoc, append-nil, arith}
use Rattle.serde_json.specs.Data.{depth, members_depth}
use Rattle.serde_json.specs.View.{members_view, view}
use Rattle.serde_json.proofs.Views.{Entry}
use Rattle.it_making.proofs.Nestings.{item_within, items_more, member_within, members_push}
use Rattle.it_making.proofs.nesting.+nests.Goals as goal

pub items_nest_within-returns-then-not-nests_within :
    goal.items_nest_within-returns-then-not-nests_within
items_nest_within-returns-then-not-nests_within t c =
    let within = rw c.deref-item-items.ensures.value at
    (item_within c.deref-item-items.result.now c.loop-item.item-index c.item-item.result
    c.loop-item-test.true c.item-item.is) in (
      λ no. absurd (let h : false ≡ true = no in cc),
      λ low. sym c.if-not-nests_within.true
          ∙ c.nests_within.ensures.1 (omega (arith, within, low)),
    )

pub items_nest_within-loop-item-preserved : goal.items_nest_within-loop-item-preserved
items_nest_within-loop-item-preserved t c =
    items_more c.deref-item-items.result.now c.loop-item.item-index c.item-item.result
    c.args.levels c.loop-item-test.true c.item-item.is c.loop-item.invariant
    (c.nests_within.ensures.0 c.if-not-nests_within.false)

pub members_nest_within-loop-name-init : goal.members_nest_within-loop-name-init
members_nest_within-loop-name-init t c = ([], search rules, omega arith)

pub members_nest_within-returns-then-not-nests_within :
    goal.members_nest_within-returns-then-not-nests_within
members_nest_within-returns-then-not-nests_within t c =
    let l = c.loop-name in
    let done = l.invariant.0 in
    let e : Entry = (c.in-Some._name.now, c.in-Some.member.now) in
    let left = c.next.new.self in
    let all : c.args.members.now.entries ≡ done ++ e ∷ left = l.invariant.1
    ∙ ap (λ es. done ++ es) c.in-Some.ensures.steps in
    let within = subst (λ es. depth (view e.1) ≤ members_depth (members_view es)) (sym all)
    (member_within done e left) in (
      λ no. absurd (let h : false ≡ true = no in cc),
      λ low. sym c.if-not-nests_within.true
          ∙ c.nests_within.ensures.1 (omega (arith, within, low)),
    )

pub members_nest_within-loop-name-preserved : goal.members_nest_within-loop-name-preserved
members_nest_within-loop-name-preserved t c =
    let l = c.loop-name in
    let done = l.invariant.0 in
    let e : Entry = (c.in-Some._name.now, c.in-Some.member.now) in
    let left = c.next.new.self in
    let all : c.args.members.now.entries ≡ done ++ e ∷ left = l.invariant.1
    ∙ ap (λ es. done ++ es) c.in-Some.ensures.steps in (
      done ++ e ∷ [],
      all ∙ sym (append_assoc done (e ∷ []) left),
      members_push done e c.args.levels l.invariant.2
          (c.nests_within.ensures.0 c.if-not-nests_within.false),
    )

pub members_nest_within-returns : goal.members_nest_within-returns
members_nest_within-returns t c =
    let l = c.loop-name in
    let whole : c.args.members.now.entries ≡ l.invariant.0 = l.invariant.1
    ∙ ap (λ es. l.invariant.0 ++ es) c.in-None.ensures.steps.0 ∙ append-nil l.invariant.0 in
    (λ _. rw whole l.invariant.2, λ _. refl)
