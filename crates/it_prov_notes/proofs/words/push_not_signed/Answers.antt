use Rattle.std.proofs.Common.{append_assoc}
use Rattle.it_prov_notes.proofs.words.push_not_signed.Goals as goal

pub returns-in-Some : goal.returns-in-Some
returns-in-Some c = rw c.in-Some.is (rw append_assoc at
    (rw c.in_ok-push_words.ensures at c.push_hinted.ensures))
