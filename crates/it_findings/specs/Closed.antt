-- Which lists of artifact rules are closed (in-toto 1.0 section 4.3.3; what is called closed is a
-- word of this project).
use Rattle.std.specs.Prelude.{◌≡◌, ◌≢◌, ◌⊎◌, ℕ, List, [], All}
use Rattle.std.specs.Str.{byte}
use Rattle.it_docs.specs.declared.rule.Rule.{Rule}
use Rattle.it_docs.specs.declared.rule.Rule.TheVariants.{Allow, Create, Disallow}
use Rattle.it_findings.specs.Reaching.{Reaches}
use Rattle.it_findings.specs.declared.finding.RuleList.{RuleList}
use Rattle.it_findings.specs.declared.finding.RuleList.TheVariants.{Deliver}

-- the pattern is of stars alone, one or more: it matches every path
pub record TakesAll (pattern : List ℕ) : Type 0 where
  pub some : pattern ≢ []
  pub stars : All (λ c. c ≡ byte "*") pattern

-- the pattern has nothing but stars and question marks
abbrev pub IsWild : List ℕ → Type 0
IsWild pattern = All (λ c. (c ≡ byte "*") ⊎ (c ≡ byte "?")) pattern

-- the rule forbids every path that is left
abbrev pub Closes : Rule → Type 0
Closes (Disallow pattern) = TakesAll pattern
Closes rule = ⊥

-- the rule lets paths through whatever their names are: ALLOW, and among the rules on what is
-- delivered, where there are no materials, CREATE
abbrev pub Opens : RuleList → Rule → Type 0
Opens list (Allow pattern) = IsWild pattern
Opens Deliver (Create pattern) = IsWild pattern
Opens list rule = ⊥

-- some rule of the list closes it, and no rule before that one opens it
abbrev pub IsClosed : RuleList → List Rule → Type 0
IsClosed list rules = Reaches (λ rule. ¬ Opens list rule) (λ rule after. Closes rule) rules
