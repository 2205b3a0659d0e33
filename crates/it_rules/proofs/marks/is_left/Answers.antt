use Rattle.std.proofs.Common.{ap, get_or, is_eq}
use Rattle.std.proofs.lemmas.Option.{slice_get-get_or}
use Rattle.it_rules.proofs.PathOrder.{same_path}
use Rattle.it_rules.proofs.Searching.{left_at, not_left}
use Rattle.it_rules.proofs.marks.is_left.Goals as goal

pub returns-in-Ok : goal.returns-in-Ok
returns-in-Ok c =
    let lent = get_or c.args.paths.now c.in-Ok.place c.args.path in
    left_at c.args.paths.now c.requires.paths c.args.marks.now c.args.path.now c.in-Ok.place lent
    (slice_get-get_or c.args.paths.now c.in-Ok.place c.args.path c.in-Ok.ensures.bound)
    (same_path lent.now c.args.path.now (ap is_eq (c.in-Ok.ensures.ok c.args.path)))

pub returns-in-Err : goal.returns-in-Err
returns-in-Err c = (
  λ h. absurd (cc h),
  λ left. absurd (not_left c.args.paths.now c.requires.paths c.args.marks.now c.args.path.now
      c.in-Err.field-0 c.in-Err.ensures.position left),
)
