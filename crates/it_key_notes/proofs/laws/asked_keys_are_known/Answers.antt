use Rattle.it_key_notes.proofs.Asking.{asked_known}
use Rattle.it_key_notes.proofs.laws.asked_keys_are_known.Goals as goal

pub returns : goal.returns
returns c = asked_known
