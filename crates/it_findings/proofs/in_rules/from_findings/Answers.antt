use Rattle.std.proofs.Common.{sym, subst}
use Rattle.std.specs.Option.{option_copied}
use Rattle.std.specs.Result.{IfOk}
use Rattle.it_docs.specs.declared.rule.Rule.{Rule}
use Rattle.it_findings.specs.RuleFindings.{FromFindings}
use Rattle.it_findings.proofs.in_rules.from_findings.Goals as goal

pub returns-in-Match : goal.returns-in-Match
returns-in-Match c =
    subst (λ (rule : Rule). IfOk c.name_findings.result (λ found. FromFindings
    (option_copied c.args.layout) c.args.list.now c.args.place rule found.items))
    (sym c.in-Match.is) c.name_findings.ensures
