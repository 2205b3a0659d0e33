use Rattle.std.proofs.Common.{not, refl}
use Rattle.it_base.specs.JsonView.{json_of}
use Rattle.it_findings.proofs.Unmet.{unmet}
use Rattle.it_findings.proofs.unequal_numbers.is_unmet.Goals as goal

pub returns : goal.returns
returns c =
    unmet (json_of c.args.tree.now) (not c.equals.result) c.equals.result refl c.equals.ensures
