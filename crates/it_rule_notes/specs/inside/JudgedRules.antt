-- Judged rules, as they are lent.
use Rattle.std.specs.Prelude.{◌≡◌, ℕ, ◌<◌, List, Some}
use Rattle.std.specs.List.{slice_get}
use Rattle.it_docs.specs.declared.rule.Rule.{Rule}
use Rattle.it_rules.specs.Item.{links_of, recorded_of}
use Rattle.it_rule_notes.specs.Met.{ClaimsPath, Judging}
use Rattle.it_rule_notes.specs.declared.judged.Claim.{Claim}
use Rattle.it_rule_notes.specs.declared.judged.JudgedRules.{JudgedRules}

-- what is lent
abbrev pub judging_in : JudgedRules → Judging
judging_in judged = record {
  rules = judged.rules.now;
  side = judged.side;
  item = recorded_of judged.item;
  links = links_of judged.links.now;
}

-- no rule before the index claims the path
abbrev pub IsUnclaimed : Judging → ℕ → List ℕ → Type 0
IsUnclaimed judging index path =
    (j : ℕ) (rule : Rule) → j < index → slice_get judging.rules j ≡ Some rule
    → ¬ ClaimsPath judging rule path

-- the first rule that claims the path, before the end
pub record IsFirstClaim (judging : Judging) (end : ℕ) (path : List ℕ) (claim : Claim)
    : Type 0 where
  pub is_before : claim.index < end
  pub unclaimed : IsUnclaimed judging claim.index path
  pub is_rule : slice_get judging.rules claim.index ≡ Some claim.rule.now
  pub claims : ClaimsPath judging claim.rule.now path
