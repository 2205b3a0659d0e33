use Rattle.std.proofs.Common.{ap, ◌∙◌}
use Rattle.it_base.specs.JsonView.{fields_view}
use Rattle.it_borrowed.proofs.TreesRead.{members_more, trees_more}
use Rattle.it_borrowed.proofs.parameters.+read.Goals as goal

pub read_items-loop-item-preserved : goal.read_items-loop-item-preserved
read_items-loop-item-preserved t c =
    rw c.in_ok-push.ensures.items
    (trees_more c.loop-item.list.items c.in_ok-read.field-0 c.deref-item-items.result.now
    c.loop-item.item-index c.item-item.result c.loop-item-test.true c.item-item.is
    c.loop-item.invariant c.in_ok-read.ensures)

pub read_members-loop-member-preserved : goal.read_members-loop-member-preserved
read_members-loop-member-preserved t c =
    ap fields_view c.in_ok-insert.ensures.entries
    ∙ members_more c.loop-member.by_name.entries c.in_ok-name.name c.in_ok-read.field-0
    c.deref-member-items.result.now c.loop-member.member-index c.member-item.result
    c.loop-member-test.true c.member-item.is c.loop-member.invariant c.in_ok-name.ensures.ok
    c.in_ok-read.ensures
