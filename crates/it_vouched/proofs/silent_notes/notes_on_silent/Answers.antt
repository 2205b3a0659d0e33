use Rattle.std.proofs.Common.{◌≤◌, arith, length, sym}
use Rattle.std.proofs.lemmas.List.{length-take-le}
use Rattle.it_vouched.proofs.silent_notes.notes_on_silent.Goals as goal

pub slice_bounds-lines_of-end : goal.slice_bounds-lines_of-end
slice_bounds-lines_of-end c =
    let within : 39 ≤ length c.args.silent.now = omega arith in
    sym (length-take-le 39 c.args.silent.now within)
