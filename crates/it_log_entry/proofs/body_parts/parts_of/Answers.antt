use Rattle.std.proofs.Common.{inr}
use Rattle.it_borrowed.specs.Tree.{as_data}
use Rattle.it_log_entry.specs.BodyParts.{AreIntotoParts, ArePartsOf}
use Rattle.it_log_entry.specs.inside.Said.{said_by}
use Rattle.it_log_entry.proofs.Finding.{found_as}
use Rattle.it_log_entry.proofs.Parts.{by_intoto}
use Rattle.it_log_entry.proofs.body_parts.parts_of.Goals as goal

pub returns-then-is_intoto : goal.returns-then-is_intoto
returns-then-is_intoto c =
    let is = c.is_intoto.ensures.0 c.if-is_intoto.true in
    found_as said_by (AreIntotoParts (as_data c.args.spec.now)) (ArePartsOf c.args.kind.now (as_data c.args.spec.now))
    (λ said are. inr (is, are)) (λ said are. by_intoto c.args.kind.now is are) c.intoto_parts.result
    c.intoto_parts.ensures
