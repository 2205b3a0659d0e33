use Rattle.std.proofs.Common.{ap, sym}
use Rattle.it_report.specs.declared.refusal.Fault.TheVariants.{RuleFailed}
use Rattle.it_notes.proofs.rules.rule_told.Goals as goal

pub returns : goal.returns
returns g c = λ path. let told = rw c.in-Some.is at c.in_ok-rule.ensures in record {
  policy = c.args.known.now.policy;
  path = path;
  fault_is = ap (λ place. RuleFailed place.item place.side place.index path) (sym told.0);
  is_policy = c.requires.known.policy;
  rule = rw (← c.as_slice.ensures) told.1;
  met = c.in_ok-met.ensures;
  delivery = c.in_ok-delivery.ensures (g.C.Checks.panel c.args.checks.now) c.requires.known
      c.requires.steps;
  returns = c.list_returns-returns.ensures;
}
