use Rattle.it_certificate.proofs.OneFacts.{one_facts}
use Rattle.it_certificate.proofs.laws.one_whole.Goals as goal

pub returns : goal.returns
returns c = one_facts
