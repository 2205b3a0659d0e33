use Rattle.std.proofs.Common.{refl}
use Rattle.it_notes.proofs.owners.owners_told.Goals as goal

pub returns : goal.returns
returns g c = λ inputs begun id. record {
  policy = c.args.begun.now.policy;
  envelope = c.args.begun.now.envelope;
  missing = id;
  fault_is = refl;
  is_policy = begun.policy;
  is_envelope = begun.envelope;
  are_true = c.in_ok-notes.ensures.told;
}
