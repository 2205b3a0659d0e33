use Rattle.std.proofs.Common.{inl, inr}
use Rattle.it_signers.proofs.file_envelope.envelope_in.Goals as goal

pub returns : goal.returns
returns c envelope has = elim has [
  | inl is ↦ (rw c.in_default.is at c.in_ok-envelope.ensures) envelope is
  | inr held ↦ (rw c.in-None.is at c.in_ok-envelope-2.ensures) held.0 held.1
]
