use Rattle.it_memory.proofs.names.names_in.Goals as goal

pub returns-clause-each : goal.returns-clause-each
returns-clause-each c = λ name.
    let same = c.put_in_order.ensures.same name in
    let named = c.in_ok-names.ensures name in
    (λ k. named.0 (same.0 k), λ found. same.1 (named.1 found))
