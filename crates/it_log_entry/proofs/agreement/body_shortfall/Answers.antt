use Rattle.it_borrowed.specs.Tree.{as_data}
use Rattle.it_log_entry.specs.inside.Said.{said_by}
use Rattle.it_log_entry.proofs.Bodies.{mapped}
use Rattle.it_log_entry.proofs.Parts.{said_told}
use Rattle.it_log_entry.proofs.agreement.body_shortfall.Goals as goal

pub returns : goal.returns
returns c =
    let document = rw c.in-Some.is at c.in_ok-document.ensures.document in
    mapped c.parts_shortfall.result _ _ (λ missed told. said_told c.args.kind.now c.args.body.now c.args.logged.now
    (said_by c.in-Some-parts_in.parts) missed (as_data c.in-Some.document, document, c.in-Some-parts_in.ensures) told)
    c.parts_shortfall.ensures
