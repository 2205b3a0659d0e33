use Rattle.std.proofs.Common.{◌∙◌, refl, take_all, subst, arith}
use Rattle.it_findings.proofs.SeenIds.{HasIds, counted, seen_more}
use Rattle.it_findings.proofs.in_step_keys.id_count.Goals as goal

pub loop-id-init : goal.loop-id-init
loop-id-init c = λ q. rw c.new-seen.ensures.empty refl

pub loop-id-preserved : goal.loop-id-preserved
loop-id-preserved c =
    seen_more c.args.ids.now c.loop-id.id-index c.id-item.result c.as_str.result c.loop-id.seen
    c.insert.new.self c.loop-id-test.true c.id-item.is c.as_str.ensures
    c.in_ok-insert.ensures.updates.0 c.loop-id.invariant

pub returns : goal.returns
returns c =
    let ids = c.args.ids.now in
    let all = take_all c.loop-id.id-index ids (omega arith) in
    c.len.ensures.len
    ∙ counted ids c.loop-id.seen c.len.ensures.ordered
    (subst (λ xs. HasIds xs c.loop-id.seen) all c.loop-id.invariant)
