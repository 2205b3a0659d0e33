use Rattle.std.proofs.Common.{sym}
use Rattle.it_borrowed.specs.Tree.{as_data}
use Rattle.it_part_notes.proofs.bad_rule.bad_rule_at.Goals as goal

pub returns : goal.returns
returns c = record {
  item = as_data c.in-Some.item.now;
  stands = sym (rw c.in-Some.is at c.item_at.ensures);
  no_rule = c.in_ok-reads.ensures c.if-branch.false;
  words = c.in_ok-words.ensures;
}
