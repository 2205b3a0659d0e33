-- Fractions of a second and their digits.
use Rattle.std.proofs.Common.{◌≡◌, ℕ, zero, suc, ◌-◌, ◌^◌, ◌<◌, ◌≤◌, List, [], ◌∷◌, ◌++◌, length}
use Rattle.std.proofs.Common.{replicate, get_or, Option, Some, None, MatchOption, Result, Ok, Err}
use Rattle.std.proofs.Common.{arith, sym, subst}
use Rattle.std.specs.Result.{OkIff, result_ok}
use Rattle.std.specs.Int.{IsInRange}
use Rattle.std.specs.Str.{IsAscii, IsUtf8}
use Rattle.std.specs.Str.Parse.{AllDigits, ParsesUnsigned, digits_value}
use Rattle.std.proofs.lemmas.Str.{IsUtf8-from_ascii}
use Rattle.std.proofs.lemmas.Str.Ascii.{IsAscii-cons, IsAscii-nil}
use Rattle.std.proofs.lemmas.Str.Parse.{IsNumeralModel, digit_from_value, digits_value_short}
use Rattle.std.proofs.lemmas.Str.Parse.{numerals_by_value, parse_plain, tells_digits}
use Rattle.it_base.specs.Finds.{Finds}
use Rattle.it_trust_root.specs.Time.{AreFractionDigits, IsFraction, nine_digits}

-- digits are text
ascii_digits : (digits : List ℕ) → AllDigits 10 digits → IsAscii digits
ascii_digits [] h = IsAscii-nil
ascii_digits (c ∷ cs) h =
    let range = digit_from_value c h.0 in IsAscii-cons c cs (omega arith) (ascii_digits cs h.1)

pub digits_are_text : (digits : List ℕ) → AllDigits 10 digits → IsUtf8 digits
digits_are_text digits h = IsUtf8-from_ascii digits (ascii_digits digits h)

own : IsNumeralModel (AllDigits 10) (digits_value 10)
own = numerals_by_value (AllDigits 10) tells_digits

-- nine digits are parsed as their number, and nothing else is
pub number_parsed : {E : Type 0} (digits : List ℕ) (r : Result ℕ E) → length digits ≡ 9
    → IsInRange 48 57 (get_or digits 0 0) → ParsesUnsigned 32 10 digits r
    → MatchOption (result_ok r) (¬ (AllDigits 10 digits))
    (λ n. AllDigits 10 digits × (n ≡ digits_value 10 digits))
number_parsed {E} digits r long first parsed =
    go r (parse_plain own 32 digits r parsed (λ plus. omega (arith, first)))
  where
    go : (s : Result ℕ E) → OkIff s (AllDigits 10 digits × (0 < length digits)
        × (digits_value 10 digits < 2 ^ 32)) (digits_value 10 digits)
        → MatchOption (result_ok s) (¬ (AllDigits 10 digits))
        (λ n. AllDigits 10 digits × (n ≡ digits_value 10 digits))
    go (Ok n) h = (h.0.0, h.1)
    go (Err e) h = λ all.
        h (all, omega arith, omega (arith, digits_value_short own digits 9 all (omega arith)))

digits_before : (xs ys : List ℕ) → AllDigits 10 xs → AllDigits 10 ys → AllDigits 10 (xs ++ ys)
digits_before [] ys h k = k
digits_before (x ∷ xs) ys h k = (h.0, digits_before xs ys h.1 k)

digits_front : (xs ys : List ℕ) → AllDigits 10 (xs ++ ys) → AllDigits 10 xs
digits_front [] ys h = tt
digits_front (x ∷ xs) ys h = (h.0, digits_front xs ys h.1)

zeros : (n : ℕ) → AllDigits 10 (replicate n 48)
zeros zero = tt
zeros (suc n) = tells_digits.more 48 (replicate n 48) (omega arith, omega arith) (zeros n)

-- the digits of a fraction are those of a number of nine digits
pub number_found : (digits : List ℕ) (found : Option ℕ) → 0 < length digits → length digits ≤ 9
    → MatchOption found (¬ (AllDigits 10 (nine_digits digits)))
    (λ n. AllDigits 10 (nine_digits digits) × (n ≡ digits_value 10 (nine_digits digits)))
    → Finds (AreFractionDigits digits) found
number_found digits None some few h = λ n is.
    h (digits_before digits (replicate (9 - length digits) 48) is.are_digits (zeros (9 - length digits)))
number_found digits (Some n) some few h = record {
  are_digits = digits_front digits (replicate (9 - length digits) 48) h.0;
  some = some;
  few = few;
  number_is = h.1;
}

pub after_mark : (fraction digits : List ℕ) (mark : ℕ) (found : Option ℕ) → fraction ≡ mark ∷ digits
    → mark ≡ 46 → Finds (AreFractionDigits digits) found → Finds (IsFraction fraction) found
after_mark fraction digits mark None is mark_is h = λ n k. h n (subst (λ f. IsFraction f n) is k).1
after_mark fraction digits mark (Some n) is mark_is h =
    subst (λ f. IsFraction f n) (sym is) (mark_is, h)
