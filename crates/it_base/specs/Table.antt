-- Maps from texts, and the JSON objects that they are read from.
use Rattle.std.specs.Prelude.{◌≡◌, ℕ, List, Option, Some, None, MatchOption, option_and_then, map}
use Rattle.std.specs.Prelude.{String, string_bytes}
use Rattle.std.specs.Ordering.{nat_cmp}
use Rattle.std.specs.Cmp.Lexicographic.{slice_cmp}
use Rattle.std.specs.FinMap.{FinMap, get}
use Rattle.std.specs.declared.alloc.Global.{Global}
use Rattle.serde_json.specs.Data.{Data, Members}
use Rattle.serde_json.specs.Find.{as_object, get_member}
use Rattle.it_base.specs.Document.{present}

-- names are compared by their bytes
abbrev pub Named : Type 0 → Type 0
Named X = FinMap {K = List ℕ} (slice_cmp nat_cmp) X

-- entries, each with its name as bytes
abbrev pub named_entries : {X : Type 0} → List (String Global × X) → List (List ℕ × X)
named_entries entries = map (λ e. (string_bytes e.0, e.1)) entries

-- what is at a name: nothing, or a value for which P holds
abbrev pub Stands : {X : Type 0} → (Data → X → Type 0) → Option Data → Option X → Type 0
Stands {X = X} P found at = MatchOption found (at ≡ None) (λ d. (x : X) × (at ≡ Some x) × P d x)

-- at each name is the value of its member; a member whose value is null counts as missing
-- (this profile's choice)
abbrev pub AreMembers : {X : Type 0} → (Data → X → Type 0) → Members → Named X → Type 0
AreMembers P ms m =
    (name : List ℕ) → Stands P (option_and_then present (get_member name ms)) (get m name)

-- the part is an object, and each of its members is the value at the member's name
abbrev pub IsTable : {X : Type 0} → (Data → X → Type 0) → Data → Named X → Type 0
IsTable P d m = MatchOption (as_object d) ⊥ (λ ms. AreMembers P ms m)
