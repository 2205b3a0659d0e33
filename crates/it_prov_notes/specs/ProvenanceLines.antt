-- Notes on the lines of provenance, and on the patterns of a policy, as lines for people (this
-- project's words).
use Rattle.std.specs.Prelude.{ℕ, List, [], ◌∷◌, ◌++◌, Bool, true, false, Option, Some, None}
use Rattle.std.specs.Prelude.{codes, decimal}
use Rattle.std.specs.Fmt.{signed_decimal}
use Rattle.std.specs.List.{flat_map}
use Rattle.it_docs.specs.PayloadType.{in_toto_type}
use Rattle.it_report.specs.Name.{cut_form}
use Rattle.it_prov_notes.specs.declared.note.Difference.{Difference}
use Rattle.it_prov_notes.specs.declared.note.HintedKey.{HintedKey}
use Rattle.it_prov_notes.specs.declared.note.ProvenanceNote.{ProvenanceNote}
use Rattle.it_prov_notes.specs.declared.note.Shape.{Shape}
use Rattle.it_prov_notes.specs.declared.note.Shape.TheVariants as shapes
use Rattle.it_prov_notes.specs.declared.note.Shortfall.{Shortfall}
use Rattle.it_prov_notes.specs.declared.note.Shortfall.TheVariants as shortfalls
use Rattle.it_prov_notes.specs.declared.note.ValueNote.{ValueNote}
use Rattle.it_prov_notes.specs.declared.note.ValueNote.TheVariants as values
use Rattle.it_prov_notes.specs.declared.patterns.PatternsNote.{PatternsNote}

-- ---- names, numbers and pairs
-- a name in quotation marks, between two texts, and cut where it is long
unfoldable pub quoting : List ℕ → List ℕ → List ℕ → List ℕ
quoting before name after = before ++ codes "\"" ++ cut_form name ++ codes "\"" ++ after

-- a number between two texts
unfoldable pub numbering : List ℕ → ℕ → List ℕ → List ℕ
numbering before number after = before ++ decimal number ++ after

-- what something is, and the type that it has
unfoldable pub typed_form : List ℕ → List ℕ → List ℕ
typed_form what found = what ++ quoting (codes " of type ") found []

-- what was found, and what is expected in its place
unfoldable pub pair_form : List ℕ → List ℕ → List ℕ → List ℕ
pair_form what found wanted =
    what ++ quoting (codes " ") found (codes " where ") ++ quoting [] wanted (codes " is expected")

-- ---- what a line misses
-- what a line that is not an envelope looks like
abbrev pub shape_form : Shape → List ℕ
shape_form shapes.NoDocument = codes "no envelope, and no JSON on one line"
shape_form shapes.List = codes "no envelope, but a JSON array"
shape_form shapes.Bundle = codes "no envelope, but a bundle with one (`dsseEnvelope`)"
shape_form (shapes.Typed found) = typed_form (codes "no envelope, but a document") found
shape_form shapes.Other = codes "no envelope"

-- a key of the expected builders, and the key id under which it signed
unfoldable pub hinted_form : HintedKey → List ℕ
hinted_form key =
    quoting (codes ", but key ") key.id [] ++ quoting (codes " did under the keyid ") key.keyid []

-- that no expected builder signed, and a key that signed under another key id, if there is one
abbrev pub not_signed_form : Option HintedKey → List ℕ
not_signed_form None = codes "none of the expected builders signed it"
not_signed_form (Some key) =
    codes "none of the expected builders signed it" ++ hinted_form key

-- that a payload is not a Statement, and its type, if it has one
abbrev pub no_statement_form : Option (List ℕ) → List ℕ
no_statement_form None = codes "its payload is no Statement v1"
no_statement_form (Some found) = typed_form (codes "its payload is no Statement v1, but") found

-- an external parameter by its name, and what is said of it
unfoldable pub parameter_form : List ℕ → List ℕ → List ℕ
parameter_form name after = quoting (codes "external parameter ") name after

-- the level that was found, and the level that is expected
abbrev pub levels_form : ℕ → ℕ → List ℕ
levels_form found wanted =
    numbering (codes "builder of level ") found []
    ++ numbering (codes " where level ") wanted (codes " is expected")

-- ---- where two values differ
-- the name of a member on the way to a place
abbrev pub member_form : List ℕ → List ℕ
member_form name = quoting (codes "[") name (codes "]")

-- a value; of a list and an object only the brackets
abbrev pub value_form : ValueNote → List ℕ
value_form values.Null = codes "null"
value_form (values.Flag true) = codes "true"
value_form (values.Flag false) = codes "false"
value_form (values.Whole number) = signed_decimal number
value_form (values.Text found) = quoting [] found []
value_form values.List = codes "[..]"
value_form values.Object = codes "{..}"
value_form values.Number = codes "a number that equals nothing"

-- what is at the place
abbrev pub found_form : Option ValueNote → List ℕ
found_form None = codes " is missing"
found_form (Some found) = codes " is " ++ value_form found

-- what is expected there
abbrev pub wanted_form : Option ValueNote → List ℕ
wanted_form None = codes " where none is expected"
wanted_form (Some wanted) = codes " where " ++ value_form wanted ++ codes " is expected"

-- the place, what is there, and what is expected there
abbrev pub difference_form : Difference → List ℕ
difference_form difference =
    flat_map member_form difference.place ++ found_form difference.found
    ++ wanted_form difference.wanted

-- ---- the lines
-- what a line misses
unfoldable pub shortfall_form : Shortfall → List ℕ
shortfall_form (shortfalls.NoEnvelope shape) = shape_form shape
shortfall_form (shortfalls.NotSigned hinted) = not_signed_form hinted
shortfall_form shortfalls.TooLarge = codes "was not looked at: too large"
shortfall_form (shortfalls.OtherPayloadType found) =
    pair_form (codes "payload type") found in_toto_type
shortfall_form (shortfalls.NoStatement found) = no_statement_form found
shortfall_form (shortfalls.NoProvenance found) =
    quoting (codes "its predicate of type ") found (codes " is no SLSA v1 provenance")
shortfall_form shortfalls.NoSubject = codes "no subject has the digest of the file"
shortfall_form (shortfalls.OtherBuilder found wanted) =
    pair_form (codes "builder id") found wanted
shortfall_form (shortfalls.OtherBuildType found wanted) =
    pair_form (codes "build type") found wanted
shortfall_form (shortfalls.MissingParameter name) = parameter_form name (codes " is missing")
shortfall_form (shortfalls.UnequalParameter name difference) =
    parameter_form name [] ++ difference_form difference
shortfall_form (shortfalls.UnexpectedParameter name) =
    parameter_form name (codes " is not expected")
shortfall_form (shortfalls.LowLevel found wanted) = levels_form found wanted

-- the line of a note on a line of the provenance
abbrev pub provenance_line : ProvenanceNote → List ℕ
provenance_line note =
    numbering (codes "provenance line ") note.line (codes ": ") ++ shortfall_form note.shortfall
    ++ codes "\n"

-- a pattern after a space
abbrev pub pattern_form : List ℕ → List ℕ
pattern_form pattern = codes " " ++ cut_form pattern

-- whether there are other patterns
abbrev pub others_form : Bool → List ℕ
others_form true = codes " and others"
others_form false = []

-- patterns, and whether there are others
abbrev pub matching_form : List (List ℕ) → Bool → List ℕ
matching_form patterns others =
    codes "policy: its expectations are for files that match" ++ flat_map pattern_form patterns
    ++ others_form others

-- the patterns of a policy, if it has expectations
unfoldable pub patterns_form : List (List ℕ) → Bool → List ℕ
patterns_form [] others = codes "policy: it has no expectation"
patterns_form (pattern ∷ patterns) others = matching_form (pattern ∷ patterns) others

-- the line of a note on the patterns of a policy
abbrev pub patterns_line : PatternsNote → List ℕ
patterns_line note = patterns_form note.patterns note.others ++ codes "\n"
