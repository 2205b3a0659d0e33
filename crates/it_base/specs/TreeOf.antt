-- Parts of a document as trees. Null is a value here.
use Rattle.std.specs.Prelude.{◌≡◌, ℕ, pos, List, Option, Some, None, MatchOption}
use Rattle.std.specs.Cmp.Lexicographic.{slice_cmp}
use Rattle.std.specs.Ordering.{nat_cmp, match_ordering}
use Rattle.serde_json.specs.Data as d
use Rattle.serde_json.specs.Find.{as_object}
use Rattle.it_base.specs.Json as j
use Rattle.it_base.specs.JsonView.{json_of}
use Rattle.it_base.specs.declared.tree.Tree.{Tree}

-- a number that serde_json reads as an integer of 64 bits is whole; every other one is `other`
abbrev pub number_tree : d.Num → j.Json
number_tree (d.unsigned n) = j.whole (pos n)
number_tree (d.negative z) = j.whole z
number_tree (d.float x) = j.other

-- the tree that a part is
abbrev mutual
  pub tree_of : d.Data → j.Json
  tree_of d.null = j.null
  tree_of (d.boolean b) = j.flag b
  tree_of (d.number n) = number_tree n
  tree_of (d.string s) = j.text s
  tree_of (d.array ds) = j.items (trees_of ds)
  tree_of (d.object ms) = j.members (fields_of ms)

  pub trees_of : d.Items → j.Items
  trees_of d.no_items = j.no_items
  trees_of (d.item e ds) = j.item (tree_of e) (trees_of ds)

  pub fields_of : d.Members → j.Fields
  fields_of d.no_members = j.no_fields
  fields_of (d.member k e ms) = j.field k (tree_of e) (fields_of ms)

-- the part is this tree
abbrev pub IsTree : d.Data → Tree → Type 0
IsTree e t = json_of t ≡ tree_of e

-- the part is an object with these members
abbrev pub IsMembers : d.Data → j.Fields → Type 0
IsMembers e fs = MatchOption (as_object e) ⊥ (λ ms. fs ≡ fields_of ms)

-- the tree under a name
abbrev pub field_at : List ℕ → j.Fields → Option j.Json
field_at name j.no_fields = None
field_at name (j.field l t fs) =
    match_ordering (slice_cmp nat_cmp name l) (field_at name fs) (Some t) (field_at name fs)
