use Rattle.it_prov.proofs.Trees.{met_by, not_met}
use Rattle.it_prov.proofs.parameters.is_met.Goals as goal

pub returns-in-Some-Some : goal.returns-in-Some-Some
returns-in-Some-Some c = met_by c.args.expected.now c.args.given.now c.args.name.now _
    c.in-Some-Some.ensures _ c.equals.result c.in-Some-Some.ensures' c.equals.ensures

pub returns-in-Some-None : goal.returns-in-Some-None
returns-in-Some-None c = not_met c.args.expected.now c.args.given.now c.args.name.now _
    c.in-Some-None.ensures c.in-Some-None.ensures'
