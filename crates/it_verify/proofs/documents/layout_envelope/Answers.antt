use Rattle.std.proofs.Common.{refl}
use Rattle.it_verify.proofs.documents.layout_envelope.Goals as goal

pub returns-in-None : goal.returns-in-None
returns-in-None c = record {
  envelope = rw c.refused.ensures (rw c.in-None.is at c.in_ok-envelope.ensures, refl);
}
