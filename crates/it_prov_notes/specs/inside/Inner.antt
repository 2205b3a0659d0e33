-- What the functions that look for a difference go by, in the words of the definitions. Nothing
-- that is trusted stands here.
use Rattle.std.specs.Prelude.{◌≡◌, List, ℕ, Option, option_map}
use Rattle.std.specs.Borrow.{Bor}
use Rattle.it_base.specs.Json.{Json}
use Rattle.it_base.specs.JsonView.{json_of}
use Rattle.it_base.specs.declared.tree.Tree.{Tree}
use Rattle.it_prov_notes.specs.Values.{AreSame, member_of}
use Rattle.it_prov_notes.specs.declared.difference.Values.{Values}

-- what a tree is that is lent, if it is there
abbrev pub seen : Option (Bor Tree) → Option Json
seen lent = option_map (λ tree. json_of tree.now) lent

-- the inner values are members of this name, and are not the same
pub record AreInner (outer : Values) (name : List ℕ) (inner : Values) : Type 0 where
  pub given_is : seen inner.given ≡ member_of name (seen outer.given)
  pub wanted_is : seen inner.wanted ≡ member_of name (seen outer.wanted)
  pub differ : ¬ AreSame (seen inner.given) (seen inner.wanted)
