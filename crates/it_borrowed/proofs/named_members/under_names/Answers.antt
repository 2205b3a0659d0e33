use Rattle.std.proofs.Common.{ap, refl, ◌∙◌}
use Rattle.it_borrowed.specs.NamedMembers.{members_in}
use Rattle.it_borrowed.proofs.Named.{one_more_named}
use Rattle.it_borrowed.proofs.named_members.under_names.Goals as goal

pub loop-member-preserved : goal.loop-member-preserved
loop-member-preserved c =
    ap members_in c.in_ok-insert.ensures.entries
    ∙ one_more_named c.loop-member.named.entries _ _
    c.deref-member-items.result.now c.loop-member.member-index c.member-item.result
    c.loop-member-test.true c.member-item.is c.loop-member.invariant refl refl
