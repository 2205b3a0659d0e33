-- What a note says about a step's artifact rule that failed (in-toto 1.0 section 4.3.3).
use Rattle.std.specs.Prelude.{◌≡◌, ℕ, List, ◌++◌, Contains}
use Rattle.it_docs.specs.declared.layout.Layout.{Layout}
use Rattle.it_docs.specs.declared.rule.Side.{Side}
use Rattle.it_docs.specs.declared.step.Step.{Step}
use Rattle.it_chain.specs.Contents.{Contents}
use Rattle.it_chain.specs.CountedBodies.{Setting}
use Rattle.it_chain.specs.Judged.{AreStepRecords}
use Rattle.it_chain.specs.StepRules.{links_in, recorded_in, rules_on}
use Rattle.it_chain.specs.declared.chain.StepResult.{StepResult}
use Rattle.it_chain.specs.declared.refusal.RuleItem.TheVariants.{Step as of_step}
use Rattle.it_rule_notes.specs.Met.{Judging, Meets, met_form}
use Rattle.it_rule_notes.specs.RulePlace.{place_form}
use Rattle.it_rule_notes.specs.declared.met.Met.{Met}
use Rattle.it_rule_notes.specs.declared.met_note.MetNote.{MetNote}

-- the rules of a step on a side, over the records of all steps
abbrev pub judging_of : Side → Step → StepResult → List StepResult → Judging
judging_of side step result results = record {
  rules = rules_on side step;
  side = side;
  item = recorded_in result;
  links = links_in results;
}

-- a rule of a step meets this over the records
pub record MeetsOver (results : List StepResult) (step : Step) (side : Side) (index : ℕ) (met : Met)
    : Type 0 where
  pub result : StepResult
  pub is_result : Contains results result
  pub result_is : result.name ≡ step.name
  pub meets : Meets (judging_of side step result results) index met

-- the rule at the note's place is one of a step of the layout, and it meets this over the records
-- of the steps
pub record TellsMetOver (layout : Layout) (results : List StepResult) (note : MetNote) : Type 0
  where
    pub step : Step
    pub is_step : Contains layout.steps step
    pub item_is : note.place.item ≡ of_step step.name
    pub meets : MeetsOver results step note.place.side note.place.index note.met

-- the same over the records with which the steps hold for a bundle
abbrev pub TellsMet : Setting → ℕ → Layout → Contents → MetNote → Type 0
TellsMet setting depth layout bundle note =
    (results : List StepResult) × AreStepRecords setting depth layout bundle results
    × TellsMetOver layout results note

-- the line of a note (this project's words)
abbrev pub met_line : MetNote → List ℕ
met_line note = place_form note.place ++ met_form note.met
