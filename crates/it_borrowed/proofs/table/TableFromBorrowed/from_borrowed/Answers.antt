use Rattle.std.proofs.lemmas.Result.{IfOk-weaker}
use Rattle.it_base.specs.Finds.{Finds}
use Rattle.it_base.specs.Table.{IsTable}
use Rattle.it_borrowed.specs.Tree.{as_data}
use Rattle.it_borrowed.proofs.Looked.{found_of_object}
use Rattle.it_borrowed.proofs.table.TableFromBorrowed.from_borrowed.Goals as goal

pub returns-in-Object : goal.returns-in-Object
returns-in-Object g c =
    let P = g.V.FromBorrowed.is_of in
    IfOk-weaker c.table_of.result _ (Finds (IsTable P (as_data c.args.value.now)))
    (λ found h. found_of_object P c.args.value.now c.in-Object.members found c.in-Object.is h)
    c.table_of.ensures
