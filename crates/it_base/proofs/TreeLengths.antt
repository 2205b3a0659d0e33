-- Lists of different lengths are not equal.
use Rattle.std.proofs.Common.{◌≡◌, ◌≢◌, suc, ◌&&◌, Bool, true, false, List, [], ◌∷◌, length, String}
use Rattle.std.proofs.Common.{Global, string_bytes, refl, ap}
use Rattle.std.specs.Str.{bytes_eq}
use Rattle.it_base.specs.Equal.{equal, equal_items, equal_fields}
use Rattle.it_base.specs.JsonView.{json_of, items_view, fields_view}
use Rattle.it_base.specs.declared.tree.Tree.{Tree}

false_last : (b c : Bool) → false ≡ c → false ≡ (b && c)
false_last true c e = e
false_last false c e = refl

pub equal_items-lengths : (xs ys : List Tree) → length xs ≢ length ys
    → false ≡ equal_items (items_view xs) (items_view ys)
equal_items-lengths [] [] h = absurd (h refl)
equal_items-lengths [] (y ∷ ys) h = refl
equal_items-lengths (x ∷ xs) [] h = refl
equal_items-lengths (x ∷ xs) (y ∷ ys) h = false_last (equal (json_of x) (json_of y)) _
    (equal_items-lengths xs ys (λ e. h (ap suc e)))

abbrev pub Entry : Type 0
Entry = String Global × Tree

pub equal_fields-lengths : (xs ys : List Entry) → length xs ≢ length ys
    → false ≡ equal_fields (fields_view xs) (fields_view ys)
equal_fields-lengths [] [] h = absurd (h refl)
equal_fields-lengths [] (y ∷ ys) h = refl
equal_fields-lengths (x ∷ xs) [] h = refl
equal_fields-lengths (x ∷ xs) (y ∷ ys) h =
    false_last (bytes_eq (string_bytes x.0) (string_bytes y.0)) _
    (false_last (equal (json_of x.1) (json_of y.1)) _
    (equal_fields-lengths xs ys (λ e. h (ap suc e))))
