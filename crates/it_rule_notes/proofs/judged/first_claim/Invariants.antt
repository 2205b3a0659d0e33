use Rattle.std.proofs.Common.{◌≡◌, ℕ, ◌<◌, Some}
use Rattle.std.specs.List.{slice_get}
use Rattle.it_docs.specs.declared.rule.Rule.{Rule}
use Rattle.it_rules.specs.Item.{links_of, recorded_of}
use Rattle.it_rules.specs.Rules.{Claims}
use Rattle.it_rule_notes.proofs.judged.first_claim.Given as goal

-- no rule so far claims the path, and the end was not reached
abbrev pub invariant-loop-index : goal.invariant-loop-index
invariant-loop-index l = (j : ℕ) (rule : Rule) → j < l.index
    → slice_get l.judged.rules.now j ≡ Some rule
    → ¬ Claims rule l.judged.side (recorded_of l.judged.item) (links_of l.judged.links.now) l.path
