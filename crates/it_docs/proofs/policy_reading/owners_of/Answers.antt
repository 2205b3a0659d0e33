use Rattle.std.proofs.Common.{◌∙◌, codes}
use Rattle.it_borrowed.specs.Tree.{as_data}
use Rattle.it_dsse.specs.KeyObject.{IsKeyObject}
use Rattle.it_base.specs.Table.{IsTable}
use Rattle.it_docs.proofs.Same.{keys_same, part_same}
use Rattle.it_docs.proofs.policy_reading.owners_of.Goals as goal

pub returns-then-is_empty : goal.returns-then-is_empty
returns-then-is_empty c = λ owners is.
    let read = rw c.in-Some.is at c.in_ok-owners.ensures in
    let same = part_same (IsTable IsKeyObject) (codes "owners") keys_same (as_data c.args.document.now)
    owners c.in-Some.owners is.part read in
    is.some (same ∙ c.is_empty.ensures.0 c.if-is_empty.true)
