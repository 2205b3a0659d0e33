use Rattle.it_certificate.proofs.Constraining.{by_content}
use Rattle.it_certificate.proofs.constraints.read_constraints.Goals as goal

pub returns : goal.returns
returns c =
    by_content c.args.value.now c.in_ok-content.content.now c.constraints_in.result c.in_ok-content.ensures c.constraints_in.ensures
