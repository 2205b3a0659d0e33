use Rattle.std.proofs.Common.{[], ℕ, List}
use Rattle.std.specs.Borrow.{Bor}
use Rattle.it_key_commands.specs.KeyFile.{key_object}
use Rattle.it_key_commands.proofs.FilesRead.{file_at, first_bad, key_more}
use Rattle.it_key_commands.proofs.KeysRead.{read_file}
use Rattle.it_key_commands.proofs.key_output.objects_in.Goals as goal

abbrev nothing : Bor (List ℕ)
nothing = record { ref_ptr = (0, 0); now = [] }

pub returns-in-Err-clause-err : goal.returns-in-Err-clause-err
returns-in-Err-clause-err c =
    let bad = rw (c.as_slice.ensures.value, c.in_ok-lines.ensures) at c.in-Err.ensures in
    first_bad c.args.files.now c.loop-place.place nothing c.loop-place.objects.items c.in-Err.fault
    c.loop-place-test.true c.loop-place.invariant bad

pub loop-place-preserved : goal.loop-place-preserved
loop-place-preserved c =
    let files = c.args.files.now in
    let place = c.loop-place.place in
    let key = c.in-Ok.key in
    let read = rw (c.as_slice.ensures.value, c.in_ok-lines.ensures) at c.in-Ok.ensures in
    let pushed = c.in_ok-push_object-in-Ok.ensures in
    rw pushed.items
    (key_more files place nothing c.loop-place.objects.items (key_object key.text.now key.key)
    c.loop-place-test.true c.loop-place.invariant
    (read_file (file_at files place nothing) key read pushed.describes))
