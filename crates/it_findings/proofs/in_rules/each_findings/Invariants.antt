use Rattle.std.proofs.Common.{take}
use Rattle.std.specs.Option.{option_copied}
use Rattle.it_findings.specs.Joined.{Joined}
use Rattle.it_findings.specs.RuleFindings.{OneFindings}
use Rattle.it_findings.proofs.in_rules.each_findings.Given as goal

abbrev pub invariant-loop-place : goal.invariant-loop-place
invariant-loop-place l =
    Joined (OneFindings (option_copied l.layout) l.list) (take l.place l.rules) l.found.items
