use Rattle.std.proofs.Common.{inl, inr}
use Rattle.it_log_entry.proofs.Bodies.{mapped}
use Rattle.it_log_entry.proofs.Parts.{by_dsse, by_intoto}
use Rattle.it_log_entry.proofs.agreement.is_about_certificate.Goals as goal

pub returns-then-is_dsse : goal.returns-then-is_dsse
returns-then-is_dsse c =
    let is = c.is_dsse.ensures.0 c.if-is_dsse.true in
    mapped c.has_certificate.result _ _ (λ b test. (
      λ passes. inl (is, test.0 passes),
      λ says. test.1 (by_dsse c.args.kind.now is says),
    )) c.has_certificate.ensures

pub returns-then-is_intoto : goal.returns-then-is_intoto
returns-then-is_intoto c =
    let is = c.is_intoto.ensures.0 c.if-is_intoto.true in
    mapped c.has_certificate-then-is_intoto.result _ _ (λ b test. (
      λ passes. inr (is, test.0 passes),
      λ says. test.1 (by_intoto c.args.kind.now is says),
    )) c.has_certificate-then-is_intoto.ensures
