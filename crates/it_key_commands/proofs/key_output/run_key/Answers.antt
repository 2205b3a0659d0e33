use Rattle.std.proofs.Common.{map, option_map}
use Rattle.it_key_commands.proofs.FilesRead.{is_key_output, now_of}
use Rattle.it_key_commands.proofs.key_output.run_key.Goals as goal

pub returns-in_err-status-clause-write : goal.returns-in_err-status-clause-write
returns-in_err-status-clause-write g c = λ fault.
    let text = c.in_ok-text.text.items in
    let output = is_key_output (map now_of c.args.files.now)
    (option_map (λ name. name.now) c.args.name) c.in_ok-objects.objects.items c.in_ok-keys.keys
    text c.in_ok-objects.ensures.ok c.in_ok-keys.ensures c.in_ok-text.ensures.form
    c.in_ok-text.ensures.reads_back in
    let sent = rw c.as_slice.ensures.value at c.in_err-status.ensures.err in
    (text, output, sent.1)

pub returns-clause-ok : goal.returns-clause-ok
returns-clause-ok g c =
    let text = c.in_ok-text.text.items in
    let output = is_key_output (map now_of c.args.files.now)
    (option_map (λ name. name.now) c.args.name) c.in_ok-objects.objects.items c.in_ok-keys.keys
    text c.in_ok-objects.ensures.ok c.in_ok-keys.ensures c.in_ok-text.ensures.form
    c.in_ok-text.ensures.reads_back in
    let sent = rw c.as_slice.ensures.value at c.in_ok-status.ensures.ok in
    (sent.0, text, output, sent.1)
