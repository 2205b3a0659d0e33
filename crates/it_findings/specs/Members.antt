-- What is found in the members of a policy and a layout: members that come again, members that
-- nobody looks at, and private keys (in-toto 1.0 sections 4.2 and 4.3; that something is found, and
-- what, is a word of this project).
use Rattle.std.specs.Prelude.{◌≡◌, ◌≢◌, ◌⊎◌, ℕ, List, [], ◌∷◌, ◌++◌, All, Contains, MatchOption}
use Rattle.std.specs.Prelude.{option_and_then, codes, map}
use Rattle.std.specs.Option.{option_map_or}
use Rattle.serde_json.specs.Data.{Data, Members, no_members, member}
use Rattle.serde_json.specs.Find.{as_object, as_str}
use Rattle.it_base.specs.Document.{IsDocument, member_at}
use Rattle.it_repeats.specs.Repeats.{RepeatsOf}
use Rattle.it_repeats.specs.declared.repeated_member.RepeatedMember.{RepeatedMember}
use Rattle.it_repeats.specs.declared.root.Root.{Root}
use Rattle.it_repeats.specs.declared.root.Root.TheVariants as roots
use Rattle.it_findings.specs.Joined.{Joined, JoinedEach, Said}
use Rattle.it_findings.specs.KeyPlaces.{key_place}
use Rattle.it_findings.specs.MemberNames.{known_names, read_names}
use Rattle.it_findings.specs.NullKeys.{list_at}
use Rattle.it_findings.specs.declared.member_finding.MemberFinding.{MemberFinding}
use Rattle.it_findings.specs.declared.member_finding.MemberFinding.TheVariants as findings
use Rattle.it_findings.specs.declared.null_key.KeyList.{KeyList}
use Rattle.it_findings.specs.declared.null_key.KeyList.TheVariants as lists
use Rattle.it_findings.specs.declared.place.KeyPlace.{KeyPlace}
use Rattle.it_findings.specs.declared.place.Place.{Place}
use Rattle.it_findings.specs.declared.place.Place.TheVariants as places

-- the members with their names, in the order of the bytes of their names
abbrev pub entries_in : Members → List (List ℕ × Data)
entries_in no_members = []
entries_in (member name d ms) = (name, d) ∷ entries_in ms

-- those of an object, and of the object that is the member of this name
abbrev pub members_of : Data → List (List ℕ × Data)
members_of d = option_map_or entries_in (as_object d) []

abbrev pub members_at : List ℕ → Data → List (List ℕ × Data)
members_at name d = option_map_or members_of (member_at name d) []

-- members of this name are looked at in the objects at a place, or known there
abbrev pub HasMeaning : Place → List ℕ → Type 0
HasMeaning place name = Contains (read_names place) name ⊎ Contains (known_names place) name

-- the name of each member has a meaning there
abbrev pub HaveMeaning : Place → Data → Type 0
HaveMeaning place d = All (λ entry. HasMeaning place entry.0) (members_of d)

-- what is found in one member of the object at a place: that its name has no meaning there
abbrev pub UnreadMember : Place → List ℕ × Data → List MemberFinding → Type 0
UnreadMember place entry found =
    Said (¬ HasMeaning place entry.0) (findings.Unread place entry.0) found

-- what is found in the members of the object at a place
abbrev pub UnreadMembers : Place → Data → List MemberFinding → Type 0
UnreadMembers place d found = JoinedEach (UnreadMember place) (members_of d) found

-- the private part of a keyval is a text that is not empty
abbrev pub HasPrivate : Data → Type 0
HasPrivate keyval =
    MatchOption (option_and_then as_str (member_at (codes "private") keyval)) ⊥
    (λ text. text ≢ [])

-- what is found in the keyval of the key object at a place
pub record KeyvalMembers (key : KeyPlace) (keyval : Data) (found : List MemberFinding)
    : Type 0 where
  pub of_members : List MemberFinding
  pub of_private : List MemberFinding
  pub found_are : found ≡ of_members ++ of_private
  pub members : UnreadMembers (places.KeyValue key) keyval of_members
  pub private : Said (HasPrivate keyval) (findings.PrivateKey key) of_private

-- what is found in the key object at a place: in its members, and then in its keyval
pub record KeyMembers (key : KeyPlace) (d : Data) (found : List MemberFinding) : Type 0 where
  pub of_members : List MemberFinding
  pub of_keyval : List MemberFinding
  pub found_are : found ≡ of_members ++ of_keyval
  pub members : UnreadMembers (places.Key key) d of_members
  pub keyval : MatchOption (member_at (codes "keyval") d) (of_keyval ≡ [])
      (λ v. KeyvalMembers key v of_keyval)

-- what is found in the key object under an id of a list
abbrev pub ListedKeyMembers : KeyList → List ℕ × Data → List MemberFinding → Type 0
ListedKeyMembers list entry found = KeyMembers (key_place list entry.0) entry.1 found

-- what is found in the list of key objects that is the member of this name, in the order of the ids
abbrev pub KeyListMembers : KeyList → List ℕ → Data → List MemberFinding → Type 0
KeyListMembers list name d found = JoinedEach (ListedKeyMembers list) (members_at name d) found

-- what is found in the builder at a place of an expectation: in its members, and then in its keys
pub record BuilderMembers (expectation place : ℕ) (d : Data) (found : List MemberFinding)
    : Type 0 where
  pub of_members : List MemberFinding
  pub of_keys : List MemberFinding
  pub found_are : found ≡ of_members ++ of_keys
  pub members : UnreadMembers (places.Builder expectation place) d of_members
  pub keys : KeyListMembers (lists.OfBuilder expectation place) (codes "keys") d of_keys

-- what is found in the expectation at a place: in its members, and then in its builders in order
pub record ExpectationMembers (place : ℕ) (d : Data) (found : List MemberFinding) : Type 0 where
  pub of_members : List MemberFinding
  pub of_builders : List MemberFinding
  pub found_are : found ≡ of_members ++ of_builders
  pub members : UnreadMembers (places.Expectation place) d of_members
  pub builders : Joined (BuilderMembers place) (list_at (codes "builders") d) of_builders

-- what is found in a policy: in its members, in its owners, and then in its expectations in order
pub record PolicyMembers (d : Data) (found : List MemberFinding) : Type 0 where
  pub of_members : List MemberFinding
  pub of_owners : List MemberFinding
  pub of_expectations : List MemberFinding
  pub found_are : found ≡ of_members ++ (of_owners ++ of_expectations)
  pub members : UnreadMembers places.Policy d of_members
  pub owners : KeyListMembers lists.Owners (codes "owners") d of_owners
  pub expectations : Joined ExpectationMembers (list_at (codes "expectations") d) of_expectations

-- what is found in the step at a place, and in the inspection at a place
abbrev pub StepMembers : ℕ → Data → List MemberFinding → Type 0
StepMembers place d found = UnreadMembers (places.Step place) d found

abbrev pub InspectionMembers : ℕ → Data → List MemberFinding → Type 0
InspectionMembers place d found = UnreadMembers (places.Inspection place) d found

-- what is found in a layout: in its members, in its keys, in its steps in order, and then in its
-- inspections in order
pub record LayoutMembers (d : Data) (found : List MemberFinding) : Type 0 where
  pub of_members : List MemberFinding
  pub of_keys : List MemberFinding
  pub of_steps : List MemberFinding
  pub of_inspections : List MemberFinding
  pub found_are : found ≡ of_members ++ (of_keys ++ (of_steps ++ of_inspections))
  pub members : UnreadMembers places.Layout d of_members
  pub keys : KeyListMembers lists.OfLayout (codes "keys") d of_keys
  pub steps : Joined StepMembers (list_at (codes "steps") d) of_steps
  pub inspections : Joined InspectionMembers (list_at (codes "inspect") d) of_inspections

-- the members that come again in the bytes of such a document, as findings
abbrev pub RepeatedIn : Root → List ℕ → List MemberFinding → Type 0
RepeatedIn root bytes found =
    (members : List RepeatedMember) × RepeatsOf root bytes members
    × (found ≡ map (findings.Repeated root) members)

-- the others in the bytes: those in the document that they are, if they are one
abbrev pub OthersIn : (Data → List MemberFinding → Type 0) → List ℕ → List MemberFinding → Type 0
OthersIn Others bytes found = (d : Data) → IsDocument bytes d → Others d found

-- what is found in the members in the bytes of such a document: first those that come again, and
-- then the others
pub record MembersOf (root : Root) (Others : Data → List MemberFinding → Type 0) (bytes : List ℕ)
    (found : List MemberFinding) : Type 0 where
  pub repeated : List MemberFinding
  pub others : List MemberFinding
  pub found_are : found ≡ repeated ++ others
  pub are_repeated : RepeatedIn root bytes repeated
  pub are_others : OthersIn Others bytes others

-- the same of a policy, and of the body of a layout
abbrev pub MembersOfPolicy : List ℕ → List MemberFinding → Type 0
MembersOfPolicy bytes found = MembersOf roots.Policy PolicyMembers bytes found

abbrev pub MembersOfLayout : List ℕ → List MemberFinding → Type 0
MembersOfLayout body found = MembersOf roots.Layout LayoutMembers body found
