-- What a note says about an artifact rule (in-toto 1.0 section 4.3.3).
use Rattle.std.specs.Prelude.{◌≡◌, ℕ, List, ◌++◌, Some, codes}
use Rattle.std.specs.List.{flat_map, slice_get}
use Rattle.it_docs.specs.Rule.{RuleOf}
use Rattle.it_docs.specs.declared.layout.Layout.{Layout}
use Rattle.it_docs.specs.declared.rule.Rule.{Rule}
use Rattle.it_report.specs.Name.{cut_form}
use Rattle.it_rule_notes.specs.RulePlace.{AreRulesAt, place_form}
use Rattle.it_rule_notes.specs.RuleWords.{words_of_rule}
use Rattle.it_rule_notes.specs.declared.rule_note.RuleNote.{RuleNote}
use Rattle.it_rule_notes.specs.declared.rule_place.RulePlace.{RulePlace}

-- the words are the rule at a place, as the standard writes it
pub record AreWordsAt (layout : Layout) (deliver : List Rule) (place : RulePlace)
    (words : List (List ℕ)) : Type 0 where
  pub rules : List Rule
  pub rule : Rule
  pub are_rules : AreRulesAt layout deliver place.item place.side rules
  pub is_rule : slice_get rules place.index ≡ Some rule
  pub are_words : RuleOf words rule
  pub as_written : words ≡ words_of_rule rule

-- the sentence of a note on a rule
abbrev pub TellsRule : Layout → List Rule → RuleNote → Type 0
TellsRule layout deliver note = AreWordsAt layout deliver note.place note.words

abbrev pub word_form : List ℕ → List ℕ
word_form word = codes " " ++ cut_form word

-- the line of a note (this project's words)
abbrev pub rule_line : RuleNote → List ℕ
rule_line note =
    place_form note.place ++ codes " is:" ++ flat_map word_form note.words ++ codes "\n"
