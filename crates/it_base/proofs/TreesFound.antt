-- Trees under names, looked up.
use Rattle.std.proofs.Common.{◌≡◌, ℕ, List, [], ◌∷◌, Option, Some, None, option_map, cond, is_eq}
use Rattle.std.proofs.Common.{Bor, String, Global, Ordering, Less, Equal, Greater, string_bytes}
use Rattle.std.proofs.Common.{nat_cmp, refl}
use Rattle.std.specs.BTreeMap.{is_at}
use Rattle.std.specs.Map.{lookup}
use Rattle.std.specs.Cmp.Lexicographic.{slice_cmp}
use Rattle.std.specs.Ordering.{match_ordering}
use Rattle.it_base.specs.Json as j
use Rattle.it_base.specs.JsonView.{json_of, fields_view}
use Rattle.it_base.specs.TreeOf.{field_at}
use Rattle.it_base.specs.declared.tree.Tree.{Tree}

pub json_of_ref : (r : Option (Bor Tree)) → option_map (λ x. json_of x.now) r ≡ option_map json_of
    (option_map (λ x. x.now) r)
json_of_ref None = refl
json_of_ref (Some x) = refl

found_or : (o : Ordering) (t : Tree) (rest : Option Tree) (f : Option j.Json)
    → option_map json_of rest ≡ f → option_map json_of (cond (is_eq o) (Some t) rest)
    ≡ match_ordering o f (Some (json_of t)) f
found_or Less t rest f e = e
found_or Equal t rest f e = refl
found_or Greater t rest f e = e

pub json_of-lookup : (name : List ℕ) (es : List (String Global × Tree))
    → option_map json_of (lookup (is_at (λ k. slice_cmp nat_cmp name (string_bytes k))) es)
    ≡ field_at name (fields_view es)
json_of-lookup name [] = refl
json_of-lookup name (e ∷ es) = found_or (slice_cmp nat_cmp name (string_bytes e.0)) e.1 _ _
    (json_of-lookup name es)
