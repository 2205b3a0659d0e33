use Rattle.std.proofs.Common.{◌↔◌, ◌≢◌, All, IsTrue, subst, sym}
use Rattle.it_docs.specs.declared.rule.Rule.{Rule}
use Rattle.it_docs.specs.declared.step.Inspection.{Inspection}
use Rattle.it_rule_notes.specs.Delivery.{LooksAtSteps}
use Rattle.it_rule_notes.proofs.judged_note.looks_at_steps.Goals as goal

pub returns-in-Match : goal.returns-in-Match
returns-in-Match c =
    let here = c.in-Match in
    let names : IsTrue c.names_none.result ↔ All (λ (inspection : Inspection).
    inspection.name ≢ here.from) c.args.inspections.now =
    rw c.as_str.ensures at c.names_none.ensures in
    subst (λ (rule : Rule). IsTrue c.names_none.result ↔ LooksAtSteps c.args.inspections.now rule)
    (sym here.is) names
