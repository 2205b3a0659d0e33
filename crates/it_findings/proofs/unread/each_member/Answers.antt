use Rattle.std.proofs.Common.{◌≡◌, ◌∙◌, [], ◌∷◌, ◌++◌, sym, ap, subst, append_assoc}
use Rattle.std.proofs.Common.{append-nil}
use Rattle.it_findings.specs.Joined.{JoinedEach}
use Rattle.it_findings.specs.Members.{UnreadMember, entries_in}
use Rattle.it_borrowed.specs.NamedMembers.{NamedMember, members_in}
use Rattle.it_findings.proofs.MemberLists.{joined_member}
use Rattle.it_findings.proofs.unread.each_member.Goals as goal

pub loop-name-init : goal.loop-name-init
loop-name-init c = record {
  done = [];
  all = sym c.into_iter-name-iterator.ensures.into_iter_gives.0;
  found = c.new-found.ensures.items;
}

pub loop-name-preserved : goal.loop-name-preserved
loop-name-preserved c =
    let so_far = c.loop-name.invariant in
    let e : NamedMember = (c.in-Some.name, c.in-Some.field-0-1) in
    let left = c.next.new.self in
    record {
      done = so_far.done ++ e ∷ [];
      all = so_far.all ∙ ap (λ es. so_far.done ++ es) c.in-Some.ensures.steps
          ∙ sym (append_assoc so_far.done (e ∷ []) left);
      found = rw c.in_ok-append.ensures.items
          (joined_member (UnreadMember c.args.place.now) so_far.done e c.loop-name.found.items
          c.in_ok-here.here.items so_far.found
          c.in_ok-here.ensures);
    }

pub returns : goal.returns
returns c =
    let so_far = c.loop-name.invariant in
    let whole : c.args.members.entries ≡ so_far.done = so_far.all
    ∙ ap (λ es. so_far.done ++ es) c.in-None.ensures.steps.0 ∙ append-nil so_far.done in
    subst (λ es. JoinedEach (UnreadMember c.args.place.now) (entries_in (members_in es))
    c.loop-name.found.items) (sym whole) so_far.found
