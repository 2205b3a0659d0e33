use Rattle.std.proofs.Common.{◌≡◌, List, ◌++◌}
use Rattle.it_base.specs.JsonView.{fields_view}
use Rattle.it_findings.specs.Joined.{JoinedEach}
use Rattle.it_findings.specs.UnequalNumbers.{ParameterFinding, parameters_in}
use Rattle.it_findings.proofs.Unmet.{Entry}
use Rattle.it_findings.proofs.unequal_numbers.parameter_findings.Given as goal

-- the parameters so far and those that are left, with what was found
abbrev pub invariant-loop-name : goal.invariant-loop-name
invariant-loop-name l = record {
  done : List Entry;
  all : fields_view (done ++ l.name-iterator) ≡ l.parameters;
  found : JoinedEach (ParameterFinding l.place) (parameters_in (fields_view done)) l.found.items;
}
