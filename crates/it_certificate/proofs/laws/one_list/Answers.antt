use Rattle.it_certificate.proofs.Stating.{one_list}
use Rattle.it_certificate.proofs.laws.one_list.Goals as goal

pub returns : goal.returns
returns c = one_list
