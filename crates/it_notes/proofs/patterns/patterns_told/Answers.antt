use Rattle.std.proofs.Common.{refl}
use Rattle.it_notes.proofs.patterns.patterns_told.Goals as goal

pub returns : goal.returns
returns c = λ panel path. record {
  policy = c.args.known.now.policy;
  path = path;
  fault_is = refl;
  is_policy = c.requires;
  is_true = rw (← c.as_slice.ensures) c.in_ok-note.ensures;
}
