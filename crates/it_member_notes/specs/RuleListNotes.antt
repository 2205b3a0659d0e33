-- What the notes on a list of artifact rules say (in-toto 1.0 section 4.3.3; that there are notes,
-- and which, is a word of this project).
use Rattle.std.specs.Prelude.{◌≡◌, ℕ, List, [], ◌∷◌, ◌++◌, Some, slice_get}
use Rattle.it_docs.specs.declared.layout.Layout.{Layout}
use Rattle.it_docs.specs.declared.rule.Rule.{Rule}
use Rattle.it_docs.specs.declared.rule.Rule.TheVariants.{Disallow, Match}
use Rattle.it_findings.specs.RuleFindings.{HasInspection, HasStep}
use Rattle.it_member_notes.specs.declared.rule_list_note.RuleListNote.{RuleListNote}
use Rattle.it_member_notes.specs.declared.rule_list_note.RuleListNote.TheVariants.{MatchFromNoStep}
use Rattle.it_member_notes.specs.declared.rule_list_note.RuleListNote.TheVariants.{NoDisallowAtEnd}

-- the rule is a MATCH from this name
abbrev pub IsMatchFrom : Rule → List ℕ → Type 0
IsMatchFrom (Match pattern source side target from) name = from ≡ name
IsMatchFrom rule name = ⊥

-- the rule is a DISALLOW
abbrev pub IsDisallow : Rule → Type 0
IsDisallow (Disallow pattern) = Unit {0}
IsDisallow rule = ⊥

-- the rule at a place of a list is a MATCH from a name that the layout does not have
pub record TakesFromNoStep (layout : Layout) (rules : List Rule) (place : ℕ) (name : List ℕ)
    : Type 0 where
  pub rule : Rule
  pub stands : slice_get rules place ≡ Some rule
  pub is_match : IsMatchFrom rule name
  pub no_step : ¬ HasStep layout name
  pub no_inspection : ¬ HasInspection layout name

-- a list has rules, the last of which is not a DISALLOW
pub record EndsOpen (rules : List Rule) : Type 0 where
  pub front : List Rule
  pub last : Rule
  pub rules_end : rules ≡ front ++ last ∷ []
  pub no_disallow : ¬ IsDisallow last

-- the note is true of rules that may take from what the layout has
abbrev pub IsOfRules : Layout → List Rule → RuleListNote → Type 0
IsOfRules layout rules (MatchFromNoStep rule name) = TakesFromNoStep layout rules rule name
IsOfRules layout rules NoDisallowAtEnd = EndsOpen rules
