use Rattle.std.proofs.Common.{◌≡◌, rules}
use Rattle.std.proofs.lemmas.Result.{IfOk-weaker}
use Rattle.it_notes.proofs.level_notes.level_notes.Goals as goal

pub returns-in-Expired : goal.returns-in-Expired
returns-in-Expired g c =
    IfOk-weaker c.expiry_told.result _ _ (λ told each. rw c.in-Expired.is (each _))
    c.expiry_told.ensures

pub returns-in-TwoPayloads : goal.returns-in-TwoPayloads
returns-in-TwoPayloads g c =
    let step : c.as_str.result.now ≡ c.in-TwoPayloads.step = search rules in
    let id : c.as_str-in-TwoPayloads.result.now ≡ c.in-TwoPayloads.id = search rules in
    IfOk-weaker c.payloads_told.result _ _
    (λ told each. rw (c.in-TwoPayloads.is, ← step, ← id) (each c.args.known.now.inputs.now))
    c.payloads_told.ensures

pub returns-in-Disagree : goal.returns-in-Disagree
returns-in-Disagree g c =
    let step : c.as_str-in-Disagree.result.now ≡ c.in-Disagree.step = search rules in
    let id : c.as_str-in-Disagree-2.result.now ≡ c.in-Disagree.id = search rules in
    IfOk-weaker c.disagreement_told.result _ _
    (λ told each. rw (c.in-Disagree.is, ← step, ← id) (each c.args.known.now.inputs.now))
    c.disagreement_told.ensures

pub returns-in-Threshold : goal.returns-in-Threshold
returns-in-Threshold g c =
    let name : c.as_str-in-Threshold.result.now ≡ c.in-Threshold.step = search rules in
    IfOk-weaker c.step_told.result _ _
    (λ told each.
    rw (c.in-Threshold.is, ← name)
    (each c.args.known.now.inputs.now c.in-Threshold.found c.in-Threshold.needed))
    c.step_told.ensures

pub returns-in-RuleFailed : goal.returns-in-RuleFailed
returns-in-RuleFailed g c =
    IfOk-weaker c.rule_told.result _ _
    (λ told each. rw c.in-RuleFailed.is (each c.in-RuleFailed.path)) c.rule_told.ensures
