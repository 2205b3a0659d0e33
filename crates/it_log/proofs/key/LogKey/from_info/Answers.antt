use Rattle.std.proofs.Common.{◌≡◌, length, ap, ◌∙◌, arith}
use Rattle.std.proofs.lemmas.List.{take_all}
use Rattle.it_log.proofs.Keys.{length-info}
use Rattle.it_log.proofs.key.LogKey.from_info.Goals as goal

pub returns-in_err-info : goal.returns-in_err-info
returns-in_err-info c =
    let long : length c.args.info.now ≡ 91 = ap length c.in_ok-key.ensures.1
    ∙ length-info c.in_ok-key.key in
    let cases = c.in_err-info.ensures.cases in
    absurd (omega arith)

pub invariant_of-result : goal.invariant_of-result
invariant_of-result c =
    let long : length c.args.info.now ≡ 91 = ap length c.in_ok-key.ensures.1
    ∙ length-info c.in_ok-key.key in
    c.in_ok-info.ensures.cases.same ∙ take_all 91 c.args.info.now (omega arith)
    ∙ c.in_ok-key.ensures.1
