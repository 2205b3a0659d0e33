use Rattle.std.proofs.Common.{◌≡◌, ◌∙◌, [], ◌∷◌, ◌++◌, sym, ap, subst, append_assoc}
use Rattle.std.proofs.Common.{append-nil}
use Rattle.it_findings.specs.Joined.{JoinedEach}
use Rattle.it_findings.specs.Members.{ListedKeyMembers, entries_in}
use Rattle.it_borrowed.specs.NamedMembers.{NamedMember, members_in}
use Rattle.it_findings.proofs.MemberLists.{joined_member}
use Rattle.it_findings.proofs.key_members.each_key.Goals as goal

pub loop-id-init : goal.loop-id-init
loop-id-init c = record {
  done = [];
  all = sym c.into_iter-id-iterator.ensures.into_iter_gives.0;
  found = c.new-found.ensures.items;
}

pub loop-id-preserved : goal.loop-id-preserved
loop-id-preserved c =
    let so_far = c.loop-id.invariant in
    let e : NamedMember = (c.in-Some.id, c.in-Some.object) in
    let left = c.next.new.self in
    record {
      done = so_far.done ++ e ∷ [];
      all = so_far.all ∙ ap (λ es. so_far.done ++ es) c.in-Some.ensures.steps
          ∙ sym (append_assoc so_far.done (e ∷ []) left);
      found = rw c.in_ok-append.ensures.items
          (joined_member (ListedKeyMembers c.args.list) so_far.done e c.loop-id.found.items
          c.in_ok-here.here.items so_far.found
          (rw c.in_ok-key.ensures at c.in_ok-here.ensures));
    }

pub loop-id-preserved-in_ok-append : goal.loop-id-preserved-in_ok-append
loop-id-preserved-in_ok-append c =
    let so_far = c.loop-id.invariant in
    let e : NamedMember = (c.in-Some.id, c.in-Some.object) in
    let left = c.next.new.self in
    record {
      done = so_far.done ++ e ∷ [];
      all = so_far.all ∙ ap (λ es. so_far.done ++ es) c.in-Some.ensures.steps
          ∙ sym (append_assoc so_far.done (e ∷ []) left);
      found = rw c.in_ok-append.ensures.items
          (joined_member (ListedKeyMembers c.args.list) so_far.done e c.loop-id.found.items
          c.in_ok-here.here.items so_far.found
          (rw c.in_ok-key.ensures at c.in_ok-here.ensures));
    }

pub loop-id-preserved-in_ok-append-2 : goal.loop-id-preserved-in_ok-append-2
loop-id-preserved-in_ok-append-2 c =
    let so_far = c.loop-id.invariant in
    let e : NamedMember = (c.in-Some.id, c.in-Some.object) in
    let left = c.next.new.self in
    record {
      done = so_far.done ++ e ∷ [];
      all = so_far.all ∙ ap (λ es. so_far.done ++ es) c.in-Some.ensures.steps
          ∙ sym (append_assoc so_far.done (e ∷ []) left);
      found = rw c.in_ok-append.ensures.items
          (joined_member (ListedKeyMembers c.args.list) so_far.done e c.loop-id.found.items
          c.in_ok-here.here.items so_far.found
          (rw c.in_ok-key.ensures at c.in_ok-here.ensures));
    }

pub returns : goal.returns
returns c =
    let so_far = c.loop-id.invariant in
    let whole : c.args.keys.entries ≡ so_far.done = so_far.all
    ∙ ap (λ es. so_far.done ++ es) c.in-None.ensures.steps.0 ∙ append-nil so_far.done in
    subst (λ es. JoinedEach (ListedKeyMembers c.args.list) (entries_in (members_in es))
    c.loop-id.found.items) (sym whole) so_far.found
