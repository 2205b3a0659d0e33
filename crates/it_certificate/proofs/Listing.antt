-- Lists of elements and of extensions, by tests and by places.
use Rattle.std.proofs.Common.{◌≡◌, ℕ, zero, suc, ◌<◌, true, false, List, [], ◌∷◌}
use Rattle.std.proofs.Common.{length, get_or, drop, map, Some, None, refl, arith}
use Rattle.std.specs.Str.{bytes_eq}
use Rattle.it_certificate.specs.declared.extension.Extension.{Extension}
use Rattle.it_certificate.specs.Extension.{stated_of}
use Rattle.it_certificate.specs.Values.{value_of}

-- the value is that of the extension at a place, or comes after it
pub value_here : (id : List ℕ) (xs : List Extension) (i : ℕ) (d : Extension) → i < length xs
    → bytes_eq (get_or xs i d).id.now id ≡ true
    → value_of id (map stated_of (drop i xs)) ≡ Some (get_or xs i d).value.now
value_here id [] i d h is = absurd (omega arith)
value_here id (x ∷ xs) zero d h is = rw is refl
value_here id (x ∷ xs) (suc i) d h is = value_here id xs i d (omega arith) is

pub value_after : (id : List ℕ) (xs : List Extension) (i : ℕ) (d : Extension) → i < length xs
    → bytes_eq (get_or xs i d).id.now id ≡ false
    → value_of id (map stated_of (drop i xs)) ≡ value_of id (map stated_of (drop (suc i) xs))
value_after id [] i d h is = absurd (omega arith)
value_after id (x ∷ xs) zero d h is = rw is refl
value_after id (x ∷ xs) (suc i) d h is = value_after id xs i d (omega arith) is

pub no_value_after : (id : List ℕ) (xs : List Extension) (i : ℕ) → i ≡ length xs
    → value_of id (map stated_of (drop i xs)) ≡ None
no_value_after id [] zero h = refl
no_value_after id [] (suc i) h = absurd (omega arith)
no_value_after id (x ∷ xs) zero h = absurd (omega arith)
no_value_after id (x ∷ xs) (suc i) h = no_value_after id xs i (omega arith)
