-- Why a path is left to an artifact rule that forbids it, or is not there for one that requires it
-- (in-toto 1.0 section 4.3.3).
use Rattle.std.specs.Prelude.{◌≡◌, ℕ, List, [], ◌++◌, Option, None, Some, codes}
use Rattle.it_rules.specs.Item.{artifacts_on}
use Rattle.it_report.specs.Report.{side_form}
use Rattle.it_rule_notes.specs.DigestWords.{algorithms_form, digests_form}
use Rattle.it_rule_notes.specs.Line.{told_form}
use Rattle.it_rule_notes.specs.Met.{Judging}
use Rattle.it_rule_notes.specs.Missed.{IsMissed, IsUnmatched}
use Rattle.it_rule_notes.specs.Near.{IsNear}
use Rattle.it_rule_notes.specs.RulePlace.{place_form}
use Rattle.it_rule_notes.specs.declared.cause.Cause.{Cause}
use Rattle.it_rule_notes.specs.declared.cause.Cause.TheVariants.{Missed, Unmatched, Near}
use Rattle.it_rule_notes.specs.declared.cause.CauseNote.{CauseNote}
use Rattle.it_rule_notes.specs.declared.missed.Miss.{Miss}
use Rattle.it_rule_notes.specs.declared.missed.Miss.TheVariants as misses
use Rattle.it_rule_notes.specs.declared.missed.Missed.{Missed as MissedRule}
use Rattle.it_rule_notes.specs.declared.target.Target.{Target}
use Rattle.it_rule_notes.specs.declared.missed.TwoSets.{TwoSets}
use Rattle.it_rule_notes.specs.declared.rule_place.RulePlace.{RulePlace}

-- what is so of a path before the rule at the index: an earlier MATCH looks for it and does not
-- take it, none looks for it, or a path much like it is on the side that is judged
abbrev pub IsCause : Judging → ℕ → List ℕ → Cause → Type 0
IsCause judging index path (Missed missed) = IsMissed judging index path missed
IsCause judging index path Unmatched = IsUnmatched judging index path
IsCause judging index path (Near near) =
    IsNear (artifacts_on judging.side judging.item) path near

-- the note is on the rule at this place, and what it says of its path is so
pub record TellsCause (judging : Judging) (place : RulePlace) (note : CauseNote) : Type 0 where
  pub place_is : note.place ≡ place
  pub is_true : IsCause judging place.index note.path note.cause

-- a path much like the one that is looked for (this project's words)
abbrev pub near_form : Option (List ℕ) → List ℕ
near_form None = codes "\n"
near_form (Some near) = told_form (codes ", the nearest is ") near (codes "\n")

-- where nothing is (this project's words)
unfoldable pub unrecorded_form : Target → Option (List ℕ) → List ℕ
unrecorded_form target near =
    told_form (codes "no ") target.path (codes " is among the ") ++ side_form target.side
    ++ told_form (codes " of ") target.from [] ++ near_form near

-- digests that differ (this project's words)
unfoldable pub different_form : List ℕ → TwoSets → List ℕ
different_form from sets =
    told_form [] from (codes " recorded") ++ digests_form sets.there ++ codes ", and here it has"
    ++ digests_form sets.here ++ codes "\n"

-- digests with no algorithm in common (this project's words)
unfoldable pub unshared_form : List ℕ → TwoSets → List ℕ
unshared_form from sets =
    told_form (codes "no algorithm is in both, of ") from (codes ":") ++ algorithms_form sets.there
    ++ codes ", and here:" ++ algorithms_form sets.here ++ codes "\n"

-- why a MATCH does not take a path (this project's words)
abbrev pub miss_form : Target → Miss → List ℕ
miss_form target misses.Unnamed = codes "nothing was recorded under that name\n"
miss_form target (misses.Unrecorded near) = unrecorded_form target near
miss_form target (misses.Unshared sets) = unshared_form target.from sets
miss_form target (misses.Different sets) = different_form target.from sets

-- the MATCH that does not take a path, by where it stands beside the rule that failed
unfoldable pub missed_form : RulePlace → List ℕ → MissedRule → List ℕ
missed_form place path missed =
    place_form (record { item = place.item; side = place.side; index = missed.index })
    ++ told_form (codes ", a MATCH from ") missed.target.from (codes ", does not take ")
    ++ told_form [] path (codes ": ")
    ++ miss_form missed.target missed.miss

-- a path much like one that is not there (this project's words)
unfoldable pub near_path_form : List ℕ → List ℕ → List ℕ
near_path_form path near =
    told_form (codes ": nearest to ") path (codes " is ") ++ told_form [] near (codes "\n")

-- the line of a note (this project's words)
abbrev pub cause_form : RulePlace → List ℕ → Cause → List ℕ
cause_form place path (Missed missed) = missed_form place path missed
cause_form place path Unmatched =
    place_form place ++ told_form (codes ": no MATCH before it matches ") path (codes "\n")
cause_form place path (Near near) = place_form place ++ near_path_form path near

abbrev pub cause_line : CauseNote → List ℕ
cause_line note = cause_form note.place note.path note.cause
