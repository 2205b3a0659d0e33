use Rattle.it_notes.proofs.place_notes.place_notes.Goals as goal

pub returns : goal.returns
returns g c = record {
  before = c.in-Some.before.now;
  last = c.in-Some.last.now;
  level = c.in-Some-level_reached.level.now;
  at_is = rw c.as_slice.ensures at c.in-Some.ensures.cases.0;
  is_level = (rw c.in-Some-level_reached.is at (c.level_reached.ensures
      (g.C.Checks.panel c.args.checks.now) c.requires c.in_ok-sublayout.ensures)).is_level;
  file = c.in_ok-file.ensures;
  folder = c.in_ok-folder.ensures;
}
