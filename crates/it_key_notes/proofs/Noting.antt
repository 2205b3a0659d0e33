-- What makes the notes on key objects true.
use Rattle.std.proofs.Common.{◌≡◌, ◌∷◌, ◌++◌, ℕ, List, Option, Some, None, Contains}
use Rattle.std.proofs.Common.{IfSome, MatchOption, subst, sym}
use Rattle.std.specs.FinMap.{entries, get}
use Rattle.std.proofs.lemmas.List.Elements.{Contains-append_right}
use Rattle.it_base.proofs.Members.{in_head}
use Rattle.it_base.specs.Table.{Named}
use Rattle.it_chain.proofs.Entries.{entry_known}
use Rattle.it_dsse.specs.Panel.{Panel}
use Rattle.it_dsse.specs.declared.key_object.KeyObject.{KeyObject}
use Rattle.it_key_notes.specs.UnknownKeys.{IsUnknown, IsUnknownIn}
use Rattle.it_key_notes.specs.declared.unknown_key.UnknownKey.{UnknownKey}

-- the object of the next of the entries stands under its id
pub stands_next : (objects : Named KeyObject) (done rest : List (List ℕ × KeyObject))
    (entry : List ℕ × KeyObject) → done ++ entry ∷ rest ≡ entries objects
    → get objects entry.0 ≡ Some entry.1
stands_next objects done rest entry all =
    entry_known objects entry
    (subst (λ these. Contains these entry) all
    (Contains-append_right done (entry ∷ rest) entry (in_head entry rest)))

-- an object that stands under an id is one of the objects
pub unknown_there : (panel : Panel) (objects : Named KeyObject) (id : List ℕ) (object : KeyObject)
    (note : UnknownKey) → get objects id ≡ Some object → IsUnknown panel id object note
    → IsUnknownIn panel objects note
unknown_there panel objects id object note there is = record {
  object = object;
  stands = subst (λ at. get objects at ≡ Some object) (sym is.id_is) there;
  is_unknown = subst (λ at. IsUnknown panel at object note) (sym is.id_is) is;
}

-- what is said of a note that there may be
pub weaker_if : {X : Type 0} (P Q : X → Type 0) (known : Type 0) (found : Option X)
    → ((x : X) → P x → Q x) → MatchOption found known P → IfSome found Q
weaker_if P Q known None more h = tt
weaker_if P Q known (Some x) more h = more x h
