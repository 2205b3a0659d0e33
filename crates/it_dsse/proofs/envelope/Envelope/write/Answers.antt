use Rattle.std.proofs.Common.{◌∙◌, string_bytes}
use Rattle.std.proofs.lemmas.Str.{IsUtf8-string_bytes}
use Rattle.serde_json.specs.View.{view}
use Rattle.it_dsse.proofs.Documents.{is_written, written_reads}
use Rattle.it_dsse.proofs.envelope.Envelope.write.Goals as goal

pub returns-in_err-write_all_of-clause-write : goal.returns-in_err-write_all_of-clause-write
returns-in_err-write_all_of-clause-write g c =
    let written = is_written c.args.self.now (view c.in_ok-value.value)
    (string_bytes c.in_ok-text.text) c.in_ok-value.ensures.document c.in_ok-text.ensures.text in
    λ _. rw (c.as_bytes.ensures.value ∙ written) at c.in_err-write_all_of.ensures.err

pub returns-clause-ok : goal.returns-clause-ok
returns-clause-ok g c =
    let written = is_written c.args.self.now (view c.in_ok-value.value)
    (string_bytes c.in_ok-text.text) c.in_ok-value.ensures.document c.in_ok-text.ensures.text in
    rw (c.as_bytes.ensures.value ∙ written) at c.in_ok-write_all_of.ensures.ok

pub returns-clause-written_reads : goal.returns-clause-written_reads
returns-clause-written_reads g c =
    let d = view c.in_ok-value.value in
    let text = string_bytes c.in_ok-text.text in
    let written = is_written c.args.self.now d text c.in_ok-value.ensures.document
    c.in_ok-text.ensures.text in
    written_reads c.args.self.now d text c.in_ok-value.ensures.document written
    (IsUtf8-string_bytes c.in_ok-text.text) c.in_ok-text.ensures.reads_back
    c.in_ok-value.ensures.reads_back
