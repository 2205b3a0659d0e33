-- The lines of notes on artifact rules and on what a layout asks for (this project's words).
use Rattle.std.specs.Prelude.{ℕ, List, ◌++◌, codes, decimal}
use Rattle.it_docs.specs.declared.rule.Side.{Side}
use Rattle.it_docs.specs.declared.rule.Side.TheVariants.{Materials, Products}
use Rattle.it_member_notes.specs.PlaceWords.{named_form, told_form}
use Rattle.it_member_notes.specs.declared.layout_note.Item.{Item}
use Rattle.it_member_notes.specs.declared.layout_note.Item.TheVariants.{Step, Inspection}
use Rattle.it_member_notes.specs.declared.layout_note.LayoutNote.{LayoutNote}
use Rattle.it_member_notes.specs.declared.layout_note.LayoutNote.TheVariants.{NoKeyObject, Rules}
use Rattle.it_member_notes.specs.declared.rule_list_note.RuleListNote.{RuleListNote}
use Rattle.it_member_notes.specs.declared.rule_list_note.RuleListNote.TheVariants.{MatchFromNoStep}
use Rattle.it_member_notes.specs.declared.rule_list_note.RuleListNote.TheVariants.{NoDisallowAtEnd}

-- what a note on a list of rules is about: the document, and one rule or all of them
abbrev pub subject_form : List ℕ → RuleListNote → List ℕ
subject_form document (MatchFromNoStep rule name) = document ++ codes ": rule " ++ decimal rule
subject_form document NoDisallowAtEnd = document ++ codes ": the rules"

-- what the note says about it, up to the end of the line
abbrev pub predicate_form : RuleListNote → List ℕ
predicate_form (MatchFromNoStep rule name) =
    told_form (codes " takes from ") name (codes ", and no step or inspection has that name\n")
predicate_form NoDisallowAtEnd = codes " do not end with a DISALLOW\n"

-- the line of a note on the policy's rules on what is delivered
abbrev pub rule_list_line : RuleListNote → List ℕ
rule_list_line note =
    subject_form (codes "policy") note ++ codes " of deliver" ++ predicate_form note

-- whose rules they are, and the side that they judge
abbrev pub item_form : Item → List ℕ
item_form (Step name) = named_form (codes "step ") name
item_form (Inspection name) = named_form (codes "inspection ") name

abbrev pub side_form : Side → Item → List ℕ
side_form Materials item = codes " on the materials of " ++ item_form item
side_form Products item = codes " on the products of " ++ item_form item

-- a key id may sign for a step, and the layout has no key object of it
abbrev pub no_key_object_form : List ℕ → List ℕ → List ℕ
no_key_object_form step id =
    named_form (codes "layout: step ") step
    ++ told_form (codes " may be signed for by key ") id
    (codes ", and keys has no key object of that id\n")

-- the line of a note on what a layout asks for
abbrev pub layout_line : LayoutNote → List ℕ
layout_line (Rules item side note) =
    subject_form (codes "layout") note ++ side_form side item ++ predicate_form note
layout_line (NoKeyObject step id) = no_key_object_form step id
