-- Members under their names, as the members of a document.
use Rattle.std.specs.Prelude.{ℕ, List, [], ◌∷◌}
use Rattle.std.specs.Borrow.{Bor}
use Rattle.std.specs.declared.alloc.Global.{Global}
use Rattle.json.specs.declared.value.Value.{Value}
use Rattle.serde_json.specs.Data.{Members, no_members, member}
use Rattle.it_borrowed.specs.Tree.{as_data}

-- a name, and the value under it
abbrev pub NamedMember : Type 0
NamedMember = Bor (List ℕ) × Bor (Value Global)

abbrev pub members_in : List NamedMember → Members
members_in [] = no_members
members_in (e ∷ es) = member e.0.now (as_data e.1.now) (members_in es)
