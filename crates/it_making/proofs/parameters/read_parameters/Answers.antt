use Rattle.serde_json.specs.View.{view}
use Rattle.it_making.proofs.ParametersGiven.{gives_parameters}
use Rattle.it_making.proofs.parameters.read_parameters.Goals as goal

pub returns-then-can_be_parameters-clause-ok : goal.returns-then-can_be_parameters-clause-ok
returns-then-can_be_parameters-clause-ok c =
    let is = rw c.in-Some.is at c.in_ok-value.ensures in
    gives_parameters c.args.bytes.now (view c.in-Some.value) is
    (c.can_be_parameters.ensures.0 c.if-can_be_parameters.true)
