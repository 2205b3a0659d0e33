use Rattle.std.proofs.Common.{inr}
use Rattle.it_log_entry.proofs.Bodies.{mapped}
use Rattle.it_log_entry.proofs.Parts.{by_intoto}
use Rattle.it_log_entry.proofs.agreement.is_about_signature.Goals as goal

pub returns-then-is_intoto : goal.returns-then-is_intoto
returns-then-is_intoto c =
    let is = c.is_intoto.ensures.0 c.if-is_intoto.true in
    mapped c.has_twice_encoded.result _ _ (λ b test. (
      λ passes. inr (is, test.0 passes),
      λ says. test.1 (by_intoto c.args.kind.now is says),
    )) c.has_twice_encoded.ensures
