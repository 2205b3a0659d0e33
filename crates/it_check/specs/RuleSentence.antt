-- What is said of findings on rules (this project's words).
use Rattle.std.specs.Prelude.{ℕ, List, ◌++◌, codes}
use Rattle.it_findings.specs.declared.finding.RuleList.{RuleList}
use Rattle.it_findings.specs.declared.finding.RuleList.TheVariants.{Deliver, OfStep, OfInspection}
use Rattle.it_report.specs.Report.{side_form}
use Rattle.it_check.specs.Pieces.{quoted, told_form}
use Rattle.it_part_notes.specs.SumLine.{numbered_form}

-- what the rules of a list are on
unfoldable pub scope_form : RuleList → List ℕ
scope_form Deliver = codes "what is delivered"
scope_form (OfStep place name side) =
    codes "the " ++ side_form side ++ codes " of step " ++ quoted name
scope_form (OfInspection place name side) =
    codes "the " ++ side_form side ++ codes " of inspection " ++ quoted name

-- what would close a list
abbrev pub closing_form : RuleList → List ℕ
closing_form Deliver =
    codes " are not closed: no DISALLOW * stands before the first ALLOW * or CREATE *"
closing_form (OfStep place name side) =
    codes " are not closed: no DISALLOW * stands before the first ALLOW *"
closing_form (OfInspection place name side) =
    codes " are not closed: no DISALLOW * stands before the first ALLOW *"

-- what the rules of a list are on, between two texts
unfoldable pub on_list : List ℕ → RuleList → List ℕ → List ℕ
on_list before list after = before ++ scope_form list ++ after

abbrev pub no_rules_sentence : RuleList → List ℕ
no_rules_sentence list =
    on_list (codes "there are no rules on ") list (codes ", so that every path passes")

abbrev pub open_rules_sentence : RuleList → List ℕ
open_rules_sentence list = on_list (codes "the rules on ") list (closing_form list)

-- the beginning of a sentence on the rule at a place of a list
unfoldable pub on_rule : RuleList → ℕ → List ℕ
on_rule list place = numbered_form (codes "rule ") place (codes " on ") ++ scope_form list

unfoldable pub unknown_item_sentence : RuleList → ℕ → List ℕ → List ℕ
unknown_item_sentence list place name =
    on_rule list place
    ++ told_form (codes " takes from ") name (codes ", and no step or inspection has that name")

unfoldable pub parameter_sentence : RuleList → ℕ → List ℕ
parameter_sentence list place =
    on_rule list place ++ codes " has a parameter in braces, which stands for itself here"
