use Rattle.json.specs.Value.{value_view}
use Rattle.std.proofs.Common.{◌≡◌, ◌∙◌, [], ◌∷◌, ◌++◌, List, ℕ, map, sym, ap}
use Rattle.std.proofs.Common.{append-nil, append_assoc}
use Rattle.std.proofs.lemmas.List.{map-append}
use Rattle.it_borrowed.specs.NamedMembers.{NamedMember, members_in}
use Rattle.it_findings.specs.NullKeys.{null_ids, null_key}
use Rattle.it_findings.proofs.NullLists.{null_data, nulls_more, nulls_skip}
use Rattle.it_findings.proofs.null_keys.null_members.Goals as goal

pub loop-name-init : goal.loop-name-init
loop-name-init c = record {
  done = [];
  all = sym c.into_iter-name-iterator.ensures.into_iter_gives.0;
  found = c.new-found.ensures.items;
}

pub loop-name-preserved-then-not-is_null : goal.loop-name-preserved-then-not-is_null
loop-name-preserved-then-not-is_null c =
    let so_far = c.loop-name.invariant in
    let e : NamedMember = (c.in-Some.name, c.in-Some.member) in
    let left = c.next.new.self in
    let none = sym (c.is_null.ensures ∙ null_data (value_view c.in-Some.member.now)) ∙ c.if-not-is_null.true in
    record {
      done = so_far.done ++ e ∷ [];
      all = so_far.all ∙ ap (λ es. so_far.done ++ es) c.in-Some.ensures.steps
          ∙ sym (append_assoc so_far.done (e ∷ []) left);
      found = so_far.found
          ∙ ap (λ ids. map (null_key c.args.list) ids)
          (sym (nulls_skip so_far.done e none));
    }

pub loop-name-preserved : goal.loop-name-preserved
loop-name-preserved c =
    let so_far = c.loop-name.invariant in
    let e : NamedMember = (c.in-Some.name, c.in-Some.member) in
    let left = c.next.new.self in
    let is = sym (c.is_null.ensures ∙ null_data (value_view c.in-Some.member.now)) ∙ c.if-not-is_null.false in
    let keys = λ (ids : List (List ℕ)). map (null_key c.args.list) ids in
    let one : keys (null_ids (members_in (so_far.done ++ e ∷ [])))
    ≡ keys (null_ids (members_in so_far.done)) ++ null_key c.args.list e.0.now ∷ [] =
    ap keys (nulls_more so_far.done e is)
    ∙ map-append (null_key c.args.list) (null_ids (members_in so_far.done))
    (e.0.now ∷ []) in
    record {
      done = so_far.done ++ e ∷ [];
      all = so_far.all ∙ ap (λ es. so_far.done ++ es) c.in-Some.ensures.steps
          ∙ sym (append_assoc so_far.done (e ∷ []) left);
      found = c.in_ok-push.ensures.items
          ∙ (λ i. so_far.found i ++ c.in_ok-null_key.ensures i ∷ []) ∙ sym one;
    }

pub returns : goal.returns
returns c =
    let so_far = c.loop-name.invariant in
    let whole : c.args.members.entries ≡ so_far.done = so_far.all
    ∙ ap (λ es. so_far.done ++ es) c.in-None.ensures.steps.0 ∙ append-nil so_far.done in
    so_far.found
    ∙ ap (λ es. map (null_key c.args.list) (null_ids (members_in es))) (sym whole)
