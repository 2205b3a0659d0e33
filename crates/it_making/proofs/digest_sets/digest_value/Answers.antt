use Rattle.std.proofs.lemmas.Result.{IfOk-weaker}
use Rattle.it_making.proofs.digest_sets.digest_value.Goals as goal

pub returns-clause-reads_back : goal.returns-clause-reads_back
returns-clause-reads_back g c =
    let told = c.told-digest in
    let lent = c.as_slice.ensures in
    IfOk-weaker c.digits_value.result _ _
    (λ value h. rw (lent, told) at h) c.digits_value.ensures.reads_back
