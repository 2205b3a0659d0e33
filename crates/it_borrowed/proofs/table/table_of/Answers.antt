use Rattle.std.proofs.lemmas.Result.{IfOk-weaker}
use Rattle.json.specs.Value.{members_view}
use Rattle.serde_json.specs.Data.{no_members}
use Rattle.it_base.specs.Finds.{Finds}
use Rattle.it_base.specs.Table.{AreMembers}
use Rattle.it_borrowed.specs.Tree.{data_of_members}
use Rattle.it_borrowed.proofs.Looked.{same_found}
use Rattle.it_borrowed.proofs.table.table_of.Goals as goal

pub returns-in_ok-last_members-in-None : goal.returns-in_ok-last_members-in-None
returns-in_ok-last_members-in-None g c =
    let P = g.V.FromBorrowed.is_of in
    let ms = data_of_members (members_view c.args.members.now.items) no_members in
    let last = c.in_ok-last_members-in-None.field-0 in
    IfOk-weaker c.read_last.result _ (Finds (AreMembers P ms))
    (λ found h. same_found P last.entries ms found c.in_ok-last_members-in-None.ensures h)
    c.read_last.ensures
