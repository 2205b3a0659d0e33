use Rattle.std.proofs.lemmas.Result.{IfOk-weaker}
use Rattle.it_making.proofs.statement_output.run_statement.Goals as goal

pub returns-clause-ok : goal.returns-clause-ok
returns-clause-ok g c =
    IfOk-weaker c.put_text.result _ _
    (λ status h. let sent = rw c.as_slice.ensures.value at h in
    (sent.0, c.in_ok-text.text.items, c.in_ok-text.ensures.ok, sent.1)) c.put_text.ensures.ok

pub returns-clause-write : goal.returns-clause-write
returns-clause-write g c = λ fault.
    let sent = rw (fault, c.as_slice.ensures.value) at c.put_text.ensures.err in
    (c.in_ok-text.text.items, c.in_ok-text.ensures.ok, sent.1)
