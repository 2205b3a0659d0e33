use Rattle.std.proofs.Common.{arith, ap, length, refl}
use Rattle.it_borrowed.specs.Tree.{as_data}
use Rattle.it_trust_root.specs.RootPart.{name_of}
use Rattle.it_trust_root.proofs.RootParts.{count_first, element_first, whole_first}
use Rattle.it_trust_root.proofs.short_list.short_list.Goals as goal

pub returns-in-Err-NoList : goal.returns-in-Err-NoList
returns-in-Err-NoList g c = (
  refl,
  whole_first g.T.FromBorrowed.is_of (name_of c.args.list) (as_data c.args.document.now)
      (rw (c.in-Err-NoList.field-0-is, c.name_of.ensures) at c.in-Err-NoList.ensures),
)

pub returns-in-Err-NoItem : goal.returns-in-Err-NoItem
returns-in-Err-NoItem g c = (
  refl,
  element_first g.T.FromBorrowed.is_of (name_of c.args.list) (as_data c.args.document.now)
      c.in-Err-NoItem.n (rw (c.in-Err-NoItem.field-0-is, c.name_of.ensures) at c.in-Err-NoItem.ensures),
)

pub returns-then-as_slice-gt-MOST_ELEMENTS : goal.returns-then-as_slice-gt-MOST_ELEMENTS
returns-then-as_slice-gt-MOST_ELEMENTS g c = (
  refl,
  count_first g.T.FromBorrowed.is_of (name_of c.args.list) (as_data c.args.document.now)
      c.in-Ok.elements (rw c.name_of.ensures at c.in-Ok.ensures)
      (omega (arith, ap length c.as_slice.ensures, c.if-as_slice-gt-MOST_ELEMENTS.true)),
)
