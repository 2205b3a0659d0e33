use Rattle.std.proofs.Common.{◌∙◌, ap, bytes_eq, if◌then◌else◌, sym, take, ◌∷◌, ◌++◌, []}
use Rattle.it_chain.specs.inside.Hints.{hints_at}
use Rattle.it_chain.specs.inside.Places.{places_under}
use Rattle.it_chain.proofs.Hinted.{hints_more, once_more}
use Rattle.it_chain.proofs.hints.add_under_hints.Goals as goal

pub loop-signature-preserved : goal.loop-signature-preserved
loop-signature-preserved c = λ id.
    let signatures = c.args.signatures.now in
    let i = c.loop-signature.signature-index in
    let signature = c.signature-item.result in
    let before = places_under c.args.named.now id in
    rw c.as_str.ensures at c.in_ok-add_once.ensures id
    ∙ once_more before (places_under c.loop-signature.named id) c.args.place
    (hints_at id (take i signatures)) (bytes_eq id signature.keyid) (c.requires id)
    (c.loop-signature.invariant id)
    ∙ ap (λ b. if b then before ++ c.args.place ∷ [] else before)
    (sym (hints_more id signatures i signature c.loop-signature-test.true c.signature-item.is))
