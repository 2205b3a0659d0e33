-- What a note on a part of a policy or of a layout says (policies are this profile's choice;
-- layouts are in in-toto 1.0 section 4.3; that there are notes, and which, is a word of this
-- project).
use Rattle.std.specs.Prelude.{◌≡◌, ◌⊎◌, ℕ, List, Option, Some, None, MatchOption, Contains, IfSome}
use Rattle.std.specs.Prelude.{IsTrue, true, is_some, option_and_then, codes}
use Rattle.serde_json.specs.Data.{Data}
use Rattle.serde_json.specs.Find.{as_array, as_number, as_object, as_str, at}
use Rattle.it_base.specs.Document.{IsDocument, member_at}
use Rattle.it_base.specs.Finds.{Finds}
use Rattle.it_base.specs.Sequence.{IsList}
use Rattle.it_base.specs.Text.{IsText}
use Rattle.it_docs.specs.Rule.{IsRule}
use Rattle.it_docs.specs.declared.layout_fault.LayoutPart.{LayoutPart}
use Rattle.it_docs.specs.declared.layout_fault.LayoutPart.TheVariants as layout
use Rattle.it_docs.specs.declared.policy_fault.PolicyPart.{PolicyPart}
use Rattle.it_docs.specs.declared.policy_fault.PolicyPart.TheVariants as policy
use Rattle.it_part_notes.specs.Flaw.{IsFlaw}
use Rattle.it_part_notes.specs.Instead.{IsInstead}
use Rattle.it_part_notes.specs.Members.{Fits, Looked, Reads, envelope_members, layout_members}
use Rattle.it_part_notes.specs.Members.{link_members, policy_members, shown}
use Rattle.it_part_notes.specs.declared.flaw.Flaw.{Flaw}
use Rattle.it_part_notes.specs.declared.member.Kind.TheVariants as kinds
use Rattle.it_part_notes.specs.declared.part_note.BadRule.{BadRule}
use Rattle.it_part_notes.specs.declared.part_note.Fault.{Fault}
use Rattle.it_part_notes.specs.declared.part_note.Fault.TheVariants as faults
use Rattle.it_part_notes.specs.declared.part_note.PartNote.{PartNote}
use Rattle.it_part_notes.specs.declared.part_note.PartPlace.{PartPlace}
use Rattle.it_part_notes.specs.declared.part_note.PartPlace.TheVariants as places
use Rattle.it_part_notes.specs.declared.part_note.Problem.{Problem}
use Rattle.it_part_notes.specs.declared.part_note.Problem.TheVariants as problems
use Rattle.it_part_notes.specs.declared.shape.Shape.{Shape}
use Rattle.it_part_notes.specs.declared.shape.Shape.TheVariants as shapes

-- the item at a place in the list that is the member of this name
abbrev pub item_at : List ℕ → ℕ → Data → Option Data
item_at name n d = option_and_then (at n) (member_at name d)

-- what is at a place of a document
abbrev pub object_at : PartPlace → Data → Option Data
object_at places.Policy d = Some d
object_at (places.Expectation n) d = item_at (codes "expectations") n d
object_at places.Layout d = Some d
object_at (places.Step n) d = item_at (codes "steps") n d
object_at (places.Inspection n) d = item_at (codes "inspect") n d
object_at places.Envelope d = Some d
object_at places.Link d = Some d

-- an item of the list of this name is not a rule; its words are its texts, if it is a list of texts
pub record HasBadRule (d : Data) (name : List ℕ) (bad : BadRule) : Type 0 where
  pub item : Data
  pub stands : item_at name bad.number d ≡ Some item
  pub no_rule : ¬ Reads IsRule item
  pub words : Finds (IsList IsText item) bad.words

-- what is wrong with a member of an object: it must be there and is missing, it is there and not of
-- its kind, or it is a list with an item that is not a rule
abbrev pub TellsFault : Data → Looked → Fault → Type 0
TellsFault d looked faults.Missing =
    (looked.is_needed ≡ true) × (member_at looked.name d ≡ None)
TellsFault d looked faults.Unfit =
    MatchOption (member_at looked.name d) ⊥ (λ value. ¬ Fits looked.kind value)
TellsFault d looked (faults.NoRule bad) =
    (looked.kind ≡ kinds.Rules) × HasBadRule d looked.name bad

-- what a value is
abbrev pub IsShape : Data → Shape → Type 0
IsShape d shapes.List = IsTrue (is_some (as_array d))
IsShape d shapes.Text = IsTrue (is_some (as_str d))
IsShape d shapes.Number = IsTrue (is_some (as_number d))

-- what is wrong with what is at a place, given the members that are looked at
abbrev pub TellsProblem : List Looked → Data → Problem → Type 0
TellsProblem members d (problems.NoDocument flaw) = ⊥
TellsProblem members d (problems.NoObject shape) =
    (¬ IsTrue (is_some (as_object d))) × IfSome shape (IsShape d)
TellsProblem members d (problems.Instead instead) = IsInstead d instead
TellsProblem members d (problems.Member member fault) =
    Contains members (shown member) × TellsFault d (shown member) fault

-- the place is a whole document
abbrev pub IsWhole : PartPlace → Type 0
IsWhole places.Policy = Unit {0}
IsWhole (places.Expectation n) = ⊥
IsWhole places.Layout = Unit {0}
IsWhole (places.Step n) = ⊥
IsWhole (places.Inspection n) = ⊥
IsWhole places.Envelope = Unit {0}
IsWhole places.Link = Unit {0}

-- the bytes are not a document at all, and why
pub record IsNoDocument (bytes : List ℕ) (note : PartNote) : Type 0 where
  pub whole : IsWhole note.place
  pub flaw : Option Flaw
  pub problem : note.problem ≡ problems.NoDocument flaw
  pub is_flaw : IfSome flaw (IsFlaw bytes)
  pub none : (d : Data) → ¬ IsDocument bytes d

-- the bytes are a document, with a problem at the note's place
pub record HasProblem (bytes : List ℕ) (members : List Looked) (note : PartNote) : Type 0 where
  pub document : Data
  pub reads : IsDocument bytes document
  pub object : Data
  pub stands : object_at note.place document ≡ Some object
  pub tells : TellsProblem members object note.problem

-- the sentence of a note on a place of which these members are looked at
abbrev pub TellsPart : List ℕ → PartPlace → List Looked → PartNote → Type 0
TellsPart bytes place members note =
    (note.place ≡ place) × (IsNoDocument bytes note ⊎ HasProblem bytes members note)

-- the place of a part
abbrev pub policy_place : PolicyPart → PartPlace
policy_place (policy.Expectation n) = places.Expectation n
policy_place part = places.Policy

abbrev pub layout_place : LayoutPart → PartPlace
layout_place (layout.Step n) = places.Step n
layout_place (layout.Inspect n) = places.Inspection n
layout_place part = places.Layout

-- the sentence of a note on a part of a policy
abbrev pub TellsPolicyPart : List ℕ → PolicyPart → PartNote → Type 0
TellsPolicyPart bytes part = TellsPart bytes (policy_place part) (policy_members part)

-- the sentence of a note on a part of a layout
abbrev pub TellsLayoutPart : List ℕ → LayoutPart → PartNote → Type 0
TellsLayoutPart bytes part = TellsPart bytes (layout_place part) (layout_members part)

-- the sentence of a note on bytes that were read as an envelope
abbrev pub TellsEnvelope : List ℕ → PartNote → Type 0
TellsEnvelope bytes = TellsPart bytes places.Envelope envelope_members

-- the sentence of a note on a payload that was read as a link
abbrev pub TellsLink : List ℕ → PartNote → Type 0
TellsLink payload = TellsPart payload places.Link link_members
