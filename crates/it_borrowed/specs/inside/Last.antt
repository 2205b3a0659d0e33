-- The members of an object that count: of each name the last.
use Rattle.std.specs.Prelude.{◌≡◌, ℕ, List, Option, option_and_then, option_map}
use Rattle.std.specs.Prelude.{String, string_bytes}
use Rattle.std.specs.declared.alloc.Global.{Global}
use Rattle.std.specs.Borrow.{Bor}
use Rattle.std.specs.BTreeMap.{BTreeMap, is_at}
use Rattle.std.specs.Cmp.Lexicographic.{slice_cmp}
use Rattle.std.specs.Map.{lookup}
use Rattle.std.specs.Ordering.{nat_cmp}
use Rattle.json.specs.declared.value.Value.{Value}
use Rattle.serde_json.specs.Data.{Data, Members}
use Rattle.serde_json.specs.Find.{get_member}
use Rattle.it_base.specs.Document.{present}
use Rattle.it_borrowed.specs.Tree.{as_data}

abbrev pub Entry : Type 0
Entry = String Global × Bor (Value Global)

-- what the entries have at a name
abbrev pub found_at : List Entry → List ℕ → Option Data
found_at es name = option_map (λ v. as_data v.now)
    (lookup (is_at (λ k. slice_cmp nat_cmp name (string_bytes k))) es)

-- the same, where null counts as missing
abbrev pub value_at : List Entry → List ℕ → Option Data
value_at es name = option_and_then present (found_at es name)

-- the map has at each name the last member of that name
abbrev pub AreLast : Members → BTreeMap (String Global) (Bor (Value Global)) → Type 0
AreLast ms last = (name : List ℕ) → found_at last.entries name ≡ get_member name ms
