use Rattle.std.proofs.Common.{◌≤◌, length, sym, arith}
use Rattle.std.proofs.lemmas.List.{length-take-le, take_all}
use Rattle.it_strict.proofs.listed_once_lines.push_first.Goals as goal

pub slice_bounds-push_each-end : goal.slice_bounds-push_each-end
slice_bounds-push_each-end c =
    let within : 40 ≤ length c.args.listed.now = omega arith in
    sym (length-take-le 40 c.args.listed.now within)

pub returns-else-listed-gt-MOST_WRITTEN : goal.returns-else-listed-gt-MOST_WRITTEN
returns-else-listed-gt-MOST_WRITTEN c =
    let few : length c.args.listed.now ≤ 40 = omega arith in
    rw (take_all 40 c.args.listed.now few) c.push_each-else-listed-gt-MOST_WRITTEN.ensures
