-- Members that come again in one object of a policy or a layout, so that they do not count: of the
-- members of one name in an object the last one counts (JSON as serde_json reads it; that such a
-- member is found is a word of this project).
use Rattle.std.specs.Prelude.{◌≡◌, ℕ, ◌+◌, List, [], ◌∷◌, ◌++◌, Option, None, Some}
use Rattle.std.specs.Prelude.{if◌then◌else◌}
use Rattle.json.specs.Json.{Json, null, boolean, number, string, array, object}
use Rattle.json.specs.Json.{Items, no_items, item, Members, no_members, member}
use Rattle.json.specs.Strict.{keys}
use Rattle.it_repeats.specs.Again.{is_among}
use Rattle.it_repeats.specs.Parts.{item_part, member_part, root_part}
use Rattle.it_repeats.specs.Tree.{IsTree}
use Rattle.it_repeats.specs.declared.part.Part.{Part}
use Rattle.it_repeats.specs.declared.repeated_member.RepeatedMember.{RepeatedMember}
use Rattle.it_repeats.specs.declared.repeated_member.Segment.{Segment}
use Rattle.it_repeats.specs.declared.repeated_member.Segment.TheVariants as segments
use Rattle.it_repeats.specs.declared.root.Root.{Root}

-- a member of this name comes again in the object at a place
abbrev pub repeated : List Segment → List ℕ → RepeatedMember
repeated place name = record { place = place; name = name }

-- what is found in a value at a place, which is such a part or one that nobody looks at: in an
-- object each member that comes again later, and what is found in the values of the others; in a
-- list what is found in its items; all in the order of the text
abbrev mutual
  pub repeats_in : Option Part → List Segment → Json → List RepeatedMember
  repeats_in None place tree = []
  repeats_in (Some part) place null = []
  repeats_in (Some part) place (boolean b) = []
  repeats_in (Some part) place (number n) = []
  repeats_in (Some part) place (string s) = []
  repeats_in (Some part) place (array items) = item_repeats (item_part part) place 0 items
  repeats_in (Some part) place (object members) = member_repeats part place members

  -- in the items of a list, of which the first has this number
  pub item_repeats : Option Part → List Segment → ℕ → Items → List RepeatedMember
  item_repeats part place n no_items = []
  item_repeats part place n (item tree items) =
      repeats_in part (place ++ segments.Item n ∷ []) tree ++ item_repeats part place (n + 1) items

  -- in the members of an object
  pub member_repeats : Part → List Segment → Members → List RepeatedMember
  member_repeats part place no_members = []
  member_repeats part place (member name tree members) =
      (if is_among (keys members) name then repeated place name ∷ []
      else repeats_in (member_part part name) (place ++ segments.Member name ∷ []) tree)
      ++ member_repeats part place members

-- what is found in the bytes of such a document: in the tree that they are the text of, if they are
abbrev pub RepeatsOf : Root → List ℕ → List RepeatedMember → Type 0
RepeatsOf root bytes found =
    (tree : Json) → IsTree bytes tree → found ≡ repeats_in (Some (root_part root)) [] tree
