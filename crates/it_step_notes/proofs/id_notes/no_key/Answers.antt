use Rattle.std.proofs.Common.{sym}
use Rattle.it_step_notes.proofs.id_notes.no_key.Goals as goal

pub returns-in_ok-copy-in-None : goal.returns-in_ok-copy-in-None
returns-in_ok-copy-in-None c = λ panel. rw c.in_ok-copy-in-None.ensures (record {
  listed = c.requires;
  unknown = sym (rw c.in-None.is at c.get.ensures);
})
