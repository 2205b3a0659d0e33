-- A report as JSON is one line.
use Rattle.std.proofs.Common.{◌≡◌, ◌<◌, ◌≤◌, ◌^◌, ◌+◌, ◌/◌, ◌%◌, ℕ, Bool, true, false, List, []}
use Rattle.std.proofs.Common.{◌∷◌, ◌++◌, All, codes, refl}
use Rattle.std.proofs.Common.{arith}
use Rattle.std.specs.Prelude.{decimal, nat_le, nat_lt}
use Rattle.std.specs.List.{flat_map, list_all}
use Rattle.std.proofs.lemmas.Bool.Decides.{nat_tests}
use Rattle.std.proofs.lemmas.Fmt.{decimal_by_steps}
use Rattle.std.proofs.lemmas.List.Elements.{All-append, All-cons, All-head, All-nil, All-tail}
use Rattle.it_report.specs.Name.{digit_form}
use Rattle.it_json_report.specs.Json.{escaped, further, is_special, json_list, json_object}
use Rattle.it_json_report.specs.Json.{json_text, member, parted}
use Rattle.it_json_report.specs.JsonLaws.{IsShown}
use Rattle.it_json_report.proofs.TextForms.{form}

-- ---- texts
append : (xs ys : List ℕ) → All IsShown xs → All IsShown ys → All IsShown (xs ++ ys)
append xs ys all also = All-append IsShown xs ys all also

pub tested : (xs : List ℕ) → list_all (λ x. nat_le 32 x) xs ≡ true → All IsShown xs
tested [] passes = All-nil IsShown
tested (x ∷ xs) passes = All-cons IsShown x xs (grind (arith, nat_tests))
    (tested xs (grind (arith, nat_tests)))

digit_form-shown : (n : ℕ) → 32 ≤ digit_form n
digit_form-shown n = grind (arith, nat_tests)

one : (byte : ℕ) → 32 ≤ byte → All IsShown (byte ∷ [])
one byte shown = All-cons IsShown byte [] shown (All-nil IsShown)

form-shown : (control special : Bool) (byte : ℕ) → nat_lt byte 32 ≡ control → All IsShown
    (form control special byte)
form-shown true special byte control =
    append (codes "\\u00") (digit_form (byte / 16) ∷ digit_form (byte % 16) ∷ [])
    (tested (codes "\\u00") refl)
    (All-cons IsShown (digit_form (byte / 16)) (digit_form (byte % 16) ∷ [])
    (digit_form-shown (byte / 16)) (one (digit_form (byte % 16)) (digit_form-shown (byte % 16))))
form-shown false true byte other =
    append (codes "\\") (byte ∷ []) (tested (codes "\\") refl) (one byte (grind (arith, nat_tests)))
form-shown false false byte other = one byte (grind (arith, nat_tests))

bytes-shown : (bytes : List ℕ) → All IsShown (flat_map escaped bytes)
bytes-shown [] = All-nil IsShown
bytes-shown (byte ∷ bytes) = append (escaped byte) (flat_map escaped bytes)
    (form-shown (nat_lt byte 32) (is_special byte) byte refl) (bytes-shown bytes)

pub text-shown : (bytes : List ℕ) → All IsShown (json_text bytes)
text-shown bytes =
    append (codes "\"" ++ flat_map escaped bytes) (codes "\"")
    (append (codes "\"") (flat_map escaped bytes) (tested (codes "\"") refl) (bytes-shown bytes))
    (tested (codes "\"") refl)

-- ---- numbers
pub number-shown : (n : ℕ) → n < 2 ^ 64 → All IsShown (decimal n)
number-shown n small =
    decimal_by_steps (λ _ digits. All IsShown digits) (λ m _. one (48 + m) (omega arith))
    (λ m digits _ all. append digits ((48 + m % 10) ∷ []) all (one (48 + m % 10) (omega arith))) n
    small

-- ---- what is parted by commas
module _ {X : Type 0} (of : X → List ℕ) where
  further-shown : (items : List X) → All (λ item. All IsShown (of item)) items → All IsShown
      (further of items)
  further-shown [] all = All-nil IsShown
  further-shown (item ∷ items) all =
      append (codes "," ++ of item) (further of items)
      (append (codes ",") (of item) (tested (codes ",") refl)
      (All-head (λ one. All IsShown (of one)) item items all))
      (further-shown items (All-tail (λ one. All IsShown (of one)) item items all))

  parted-shown : (items : List X) → All (λ item. All IsShown (of item)) items → All IsShown
      (parted of items)
  parted-shown [] all = All-nil IsShown
  parted-shown (item ∷ items) all =
      append (of item) (further of items) (All-head (λ one. All IsShown (of one)) item items all)
      (further-shown items (All-tail (λ one. All IsShown (of one)) item items all))

  pub list-shown : (items : List X) → All (λ item. All IsShown (of item)) items → All IsShown
      (json_list of items)
  list-shown items all =
      append (codes "[" ++ parted of items) (codes "]")
      (append (codes "[") (parted of items) (tested (codes "[") refl) (parted-shown items all))
      (tested (codes "]") refl)

-- ---- objects
-- what stands for the name and for the value of a member has no control character
abbrev pub IsShownMember : List ℕ × List ℕ → Type 0
IsShownMember pair = (list_all (λ x. nat_le 32 x) pair.0 ≡ true) × All IsShown pair.1

member-shown : (pair : List ℕ × List ℕ) → IsShownMember pair → All IsShown (member pair)
member-shown pair both =
    append (codes "\"" ++ pair.0 ++ codes "\":") pair.1
    (append (codes "\"" ++ pair.0) (codes "\":")
    (append (codes "\"") pair.0 (tested (codes "\"") refl) (tested pair.0 both.0))
    (tested (codes "\":") refl)) both.1

-- each member of a list
abbrev pub AreShown : List (List ℕ × List ℕ) → Type 0
AreShown [] = Unit {0}
AreShown (pair ∷ pairs) = IsShownMember pair × AreShown pairs

members-shown : (pairs : List (List ℕ × List ℕ)) → AreShown pairs
    → All (λ pair. All IsShown (member pair)) pairs
members-shown [] all = All-nil (λ pair. All IsShown (member pair))
members-shown (pair ∷ pairs) all =
    All-cons (λ one. All IsShown (member one)) pair pairs (member-shown pair all.0)
    (members-shown pairs all.1)

pub object-shown : (pairs : List (List ℕ × List ℕ)) → AreShown pairs → All IsShown
    (json_object pairs)
object-shown pairs all =
    append (codes "{" ++ parted member pairs) (codes "}")
    (append (codes "{") (parted member pairs) (tested (codes "{") refl)
    (parted-shown member pairs (members-shown pairs all))) (tested (codes "}") refl)
