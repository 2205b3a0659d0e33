use Rattle.std.proofs.lemmas.Result.{IfOk-weaker}
use Rattle.it_making.proofs.LinkWritten.{is_link_output}
use Rattle.it_making.proofs.link_output.run_link.Goals as goal

pub returns-clause-ok : goal.returns-clause-ok
returns-clause-ok g c =
    let text = c.in_ok-text.text.items in
    let output = is_link_output c.args.name.now c.args.materials.now c.args.products.now text
    c.in_ok-link.link c.in_ok-link.ensures.ok c.in_ok-text.ensures.form
    c.in_ok-text.ensures.reads_back in
    IfOk-weaker c.put_text.result _ _
    (λ status h. let sent = rw c.as_slice.ensures.value at h in (sent.0, text, output, sent.1))
    c.put_text.ensures.ok

pub returns-clause-write : goal.returns-clause-write
returns-clause-write g c = λ fault.
    let text = c.in_ok-text.text.items in
    let output = is_link_output c.args.name.now c.args.materials.now c.args.products.now text
    c.in_ok-link.link c.in_ok-link.ensures.ok c.in_ok-text.ensures.form
    c.in_ok-text.ensures.reads_back in
    let sent = rw (fault, c.as_slice.ensures.value) at c.put_text.ensures.err in
    (text, output, sent.1)
