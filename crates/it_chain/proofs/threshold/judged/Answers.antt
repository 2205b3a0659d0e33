use Rattle.std.proofs.Common.{◌≡◌, ◌∙◌, ◌∷◌, drop, drop-cons, ap, sym, arith}
use Rattle.it_chain.proofs.Others.{judged_by}
use Rattle.it_chain.proofs.threshold.judged.Goals as goal

pub returns : goal.returns
returns c =
    let records = c.args.records.items in
    let first = c.remove-first.result in
    let split : records ≡ first ∷ c.as_slice-2.result.now =
    drop-cons records 0 first (omega arith)
    ∙ ap (λ r. r ∷ drop 1 records) (sym c.remove-first.ensures.value)
    ∙ ap (λ rs. first ∷ rs) (sym (c.as_slice-2.ensures.value ∙ c.remove-first.ensures.items)) in
    judged_by c.args.step.now records first c.as_slice-2.result.now c.in_ok-found.found
    c.agreed.result split (rw c.as_slice.ensures.value at c.in_ok-found.ensures) (omega arith) c.agreed.ensures
