-- What a note says about two links that differ (in-toto 1.0 section 5.2; that all must agree is
-- this profile's choice).
use Rattle.std.specs.Prelude.{◌≡◌, ℕ, List, [], ◌++◌, Contains, codes}
use Rattle.it_docs.specs.declared.layout.Layout.{Layout}
use Rattle.it_docs.specs.declared.step.Step.{Step}
use Rattle.it_chain.specs.Contents.{Contents}
use Rattle.it_chain.specs.CountedBodies.{Setting}
use Rattle.it_report.specs.Report.{side_form}
use Rattle.it_rule_notes.specs.Difference.{IsDifference}
use Rattle.it_rule_notes.specs.Line.{told_form}
use Rattle.it_rule_notes.specs.LinkFile.{HoldsLink}
use Rattle.it_rule_notes.specs.declared.difference.Difference.{Difference}
use Rattle.it_rule_notes.specs.declared.disagree_note.DisagreeNote.{DisagreeNote}
use Rattle.it_rule_notes.specs.declared.disagree_note.OtherLink.{OtherLink}
use Rattle.it_rule_notes.specs.declared.link_file.LinkFile.{LinkFile}

-- a file holds a link that counts for the step, and it differs from that of the first file
pub record IsOtherLink (setting : Setting) (layout : Layout) (bundle : Contents) (step : Step)
    (first : LinkFile) (other : OtherLink) : Type 0 where
  pub holds : HoldsLink setting layout bundle step other.file
  pub differs : IsDifference first.link other.file.link other.difference

-- both files hold links that count for the step, and the links differ there
pub record TellsDisagree (setting : Setting) (layout : Layout) (bundle : Contents)
    (note : DisagreeNote) : Type 0 where
  pub step : Step
  pub is_step : Contains layout.steps step
  pub step_is : step.name ≡ note.step
  pub first : HoldsLink setting layout bundle step note.first
  pub second : IsOtherLink setting layout bundle step note.first note.second

unfoldable pub links_form : List ℕ → List ℕ → List ℕ
links_form first second =
    told_form (codes "layout: the links ") first [] ++ told_form (codes " and ") second []

unfoldable pub difference_form : List ℕ → Difference → List ℕ
difference_form step difference =
    told_form (codes " of step ") step (codes " differ in the ") ++ side_form difference.side
    ++ told_form (codes " at ") difference.path (codes "\n")

-- the line of a note (this project's words)
abbrev pub disagree_line : DisagreeNote → List ℕ
disagree_line note =
    links_form note.first.name note.second.file.name
    ++ difference_form note.step note.second.difference
