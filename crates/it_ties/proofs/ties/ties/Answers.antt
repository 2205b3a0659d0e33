use Rattle.std.proofs.Common.{◌↔◌, IsTrue, subst, sym}
use Rattle.it_docs.specs.declared.rule.Rule.{Rule}
use Rattle.it_docs.specs.declared.rule.Rule.TheVariants.{Match}
use Rattle.it_docs.specs.declared.rule.Side.{Side}
use Rattle.it_ties.specs.Ties.{NamesStep, Ties}
use Rattle.it_ties.proofs.ties.ties.Goals as goal

pub returns-in-Products : goal.returns-in-Products
returns-in-Products c =
    let here = c.in-Match in
    let names : IsTrue c.names_step.result ↔ NamesStep c.args.steps.now here.from =
    rw c.as_str.ensures at c.names_step.ensures in
    subst (λ (rule : Rule). IsTrue c.names_step.result ↔ Ties c.args.steps.now rule) (sym here.is)
    (subst (λ (side : Side). IsTrue c.names_step.result
    ↔ Ties c.args.steps.now
    (Match here.pattern here.source_prefix side here.target_prefix here.from))
    (sym c.in-Products.is) names)
