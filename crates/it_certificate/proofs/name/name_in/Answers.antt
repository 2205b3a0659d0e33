use Rattle.it_certificate.proofs.Naming.{name_found_if_ok}
use Rattle.it_certificate.proofs.name.name_in.Goals as goal

pub returns-in-None : goal.returns-in-None
returns-in-None c = name_found_if_ok c.args.content.now c.wrapped_name_in.result c.in-None.ensures c.wrapped_name_in.ensures
