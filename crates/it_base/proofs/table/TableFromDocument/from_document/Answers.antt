use Rattle.std.proofs.lemmas.Result.{IfOk-weaker}
use Rattle.serde_json.specs.View.{view, members_view}
use Rattle.it_base.specs.Finds.{Finds}
use Rattle.it_base.specs.Table.{IsTable}
use Rattle.it_base.proofs.TableLemmas.{found_of_members}
use Rattle.it_base.proofs.table.TableFromDocument.from_document.Goals as goal

pub returns-in-Some : goal.returns-in-Some
returns-in-Some g c =
    let P = g.V.FromDocument.is_of in
    IfOk-weaker c.read_members.result _ (Finds (IsTable P (view c.args.value.now)))
    (λ found h. found_of_members P (view c.args.value.now)
    (members_view c.in-Some.members.now.entries) found c.in-Some.ensures h)
    c.read_members.ensures
