use Rattle.std.proofs.Common.{refl}
use Rattle.it_chain.proofs.held_file.Held.of.Goals as goal

pub returns-in-None : goal.returns-in-None
returns-in-None c = (refl, rw (c.in-None.is, c.as_slice.ensures) at c.in_ok-envelope.ensures)
