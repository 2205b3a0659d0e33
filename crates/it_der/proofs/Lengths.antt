-- Lengths, in their one form.
use Rattle.std.proofs.Common.{◌≡◌, ℕ, suc, ◌==◌, Bool, true, false, ◌/◌, ◌%◌, ◌^◌, ◌<◌, ◌≤◌, List, [], ◌∷◌, ◌++◌}
use Rattle.std.proofs.Common.{length, get_or, take, drop, ◌-◌, Option, Some, None, MatchOption}
use Rattle.std.proofs.Common.{inl, inr, refl, sym, ap, ◌∙◌, arith}
use Rattle.std.proofs.lemmas.List.{take_all}
use Rattle.std.proofs.lemmas.Bool.{cases_lt, lt-ltb, le-ltb, eqb-true, eqb-false}
use Rattle.it_der.specs.Element.{length_form}
use Rattle.it_der.specs.declared.length.Length.{Length}

pub short_form : (n : ℕ) → n < 128 → length_form n ≡ n ∷ []
unfolding length_form
short_form n h = rw (lt-ltb n 128 h) refl

pub one_byte_form : (n : ℕ) → 128 ≤ n → n < 256 → length_form n ≡ 129 ∷ n ∷ []
unfolding length_form
one_byte_form n least most = rw (le-ltb n 128 least, lt-ltb n 256 most) refl

pub two_byte_form : (n : ℕ) → 256 ≤ n → length_form n ≡ 130 ∷ (n / 256) ∷ (n % 256) ∷ []
unfolding length_form
two_byte_form n least =
    let long : 128 ≤ n = omega arith in
    rw (le-ltb n 128 long, le-ltb n 256 least) refl

-- which form a length has
pub data FormOf (n : ℕ) : Type 0 where
  short : n < 128 → length_form n ≡ n ∷ [] → FormOf n
  one_byte : 128 ≤ n → n < 256 → length_form n ≡ 129 ∷ n ∷ [] → FormOf n
  two_bytes : 256 ≤ n → length_form n ≡ 130 ∷ (n / 256) ∷ (n % 256) ∷ [] → FormOf n

from_128 : (n : ℕ) → 128 ≤ n → FormOf n
from_128 n least =
    elim (cases_lt n 256) [
      | inl lt ↦ one_byte least lt (one_byte_form n least lt)
      | inr ge ↦ two_bytes ge (two_byte_form n ge)
    ]

pub form_of : (n : ℕ) → FormOf n
form_of n =
    elim (cases_lt n 128) [
      | inl lt ↦ short lt (short_form n lt)
      | inr ge ↦ from_128 n ge
    ]

-- a length is its first byte and what comes after
by_forms : (m n : ℕ) (x y : List ℕ) → FormOf m → FormOf n → length_form m ++ x ≡ length_form n ++ y
    → (m ≡ n) × (x ≡ y)
by_forms m n x y (short h e) (short k f) same =
    let both : m ∷ x ≡ n ∷ y = rw (e, f) at same in (cc, cc)
by_forms m n x y (short h e) (one_byte k l f) same =
    let both : m ∷ x ≡ 129 ∷ n ∷ y = rw (e, f) at same in
    let first : m ≡ 129 = cc in absurd (omega arith)
by_forms m n x y (short h e) (two_bytes k f) same =
    let both : m ∷ x ≡ 130 ∷ (n / 256) ∷ (n % 256) ∷ y = rw (e, f) at same in
    let first : m ≡ 130 = cc in absurd (omega arith)
by_forms m n x y (one_byte h l e) (short k f) same =
    let both : 129 ∷ m ∷ x ≡ n ∷ y = rw (e, f) at same in
    let first : n ≡ 129 = cc in absurd (omega arith)
by_forms m n x y (one_byte h l e) (one_byte k o f) same =
    let both : 129 ∷ m ∷ x ≡ 129 ∷ n ∷ y = rw (e, f) at same in (cc, cc)
by_forms m n x y (one_byte h l e) (two_bytes k f) same =
    let both : 129 ∷ m ∷ x ≡ 130 ∷ (n / 256) ∷ (n % 256) ∷ y = rw (e, f) at same in
    let first : ◌≡◌ {A = ℕ} 129 130 = cc in absurd (omega arith)
by_forms m n x y (two_bytes h e) (short k f) same =
    let both : 130 ∷ (m / 256) ∷ (m % 256) ∷ x ≡ n ∷ y = rw (e, f) at same in
    let first : n ≡ 130 = cc in absurd (omega arith)
by_forms m n x y (two_bytes h e) (one_byte k l f) same =
    let both : 130 ∷ (m / 256) ∷ (m % 256) ∷ x ≡ 129 ∷ n ∷ y = rw (e, f) at same in
    let first : ◌≡◌ {A = ℕ} 130 129 = cc in absurd (omega arith)
by_forms m n x y (two_bytes h e) (two_bytes k f) same =
    let both : 130 ∷ (m / 256) ∷ (m % 256) ∷ x ≡ 130 ∷ (n / 256) ∷ (n % 256) ∷ y = rw (e, f) at same in
    let high : m / 256 ≡ n / 256 = cc in
    let low : m % 256 ≡ n % 256 = cc in
    (omega arith, cc)

-- no form of a length begins another
pub same_length : (m n : ℕ) (x y : List ℕ) → length_form m ++ x ≡ length_form n ++ y → (m ≡ n) × (x ≡ y)
same_length m n x y same = by_forms m n x y (form_of m) (form_of n) same

-- what bytes are that begin with a length
pub data BeginsForm (bytes : List ℕ) (n : ℕ) (rest : List ℕ) : Type 0 where
  in_itself : n < 128 → bytes ≡ n ∷ rest → BeginsForm bytes n rest
  in_one : 128 ≤ n → n < 256 → bytes ≡ 129 ∷ n ∷ rest → BeginsForm bytes n rest
  in_two : 256 ≤ n → bytes ≡ 130 ∷ (n / 256) ∷ (n % 256) ∷ rest → BeginsForm bytes n rest

pub begins_form : (bytes : List ℕ) (n : ℕ) (rest : List ℕ) → bytes ≡ length_form n ++ rest → BeginsForm bytes n rest
begins_form bytes n rest e =
    elim (form_of n) [
      | short h f ↦ in_itself h (rw f at e)
      | one_byte h l f ↦ in_one h l (rw f at e)
      | two_bytes h f ↦ in_two h (rw f at e)
    ]

not_empty : (bytes : List ℕ) (n : ℕ) (rest : List ℕ) → length bytes ≡ 0 → BeginsForm bytes n rest → ⊥
not_empty bytes n rest none (in_itself h e) = let long = ap length e in omega arith
not_empty bytes n rest none (in_one h l e) = let long = ap length e in omega arith
not_empty bytes n rest none (in_two h e) = let long = ap length e in omega arith

pub no_form : (bytes : List ℕ) → length bytes ≡ 0 → (n : ℕ) (rest : List ℕ) → n < 2 ^ 16 → bytes ≡ length_form n ++ rest → ⊥
no_form bytes none n rest below e = not_empty bytes n rest none (begins_form bytes n rest e)

-- bytes are the first of them and the rest
pub first_and_rest : (bytes : List ℕ) → 0 < length bytes → bytes ≡ get_or bytes 0 0 ∷ take (length bytes - 1) (drop 1 bytes)
first_and_rest [] some = absurd (omega arith)
first_and_rest (b ∷ bs) some = ap (λ (x : List ℕ). b ∷ x) (sym (take_all (suc (length bs) - 1) bs (omega arith)))

pub short_read : (bytes : List ℕ) → 0 < length bytes → get_or bytes 0 0 < 128
    → bytes ≡ length_form (get_or bytes 0 0) ++ take (length bytes - 1) (drop 1 bytes)
short_read bytes some below = rw (short_form (get_or bytes 0 0) below) (first_and_rest bytes some)

none_in_one : (bytes tail : List ℕ) (n : ℕ) (rest : List ℕ) → bytes ≡ 129 ∷ tail
    → ((n : ℕ) (rest : List ℕ) → 128 ≤ n → n < 256 → tail ≡ n ∷ rest → ⊥) → BeginsForm bytes n rest → ⊥
none_in_one bytes tail n rest whole none (in_itself h e) = let first : n ≡ 129 = cc in omega arith
none_in_one bytes tail n rest whole none (in_one h l e) = none n rest h l (cc)
none_in_one bytes tail n rest whole none (in_two h e) = let first : ◌≡◌ {A = ℕ} 129 130 = cc in omega arith

-- the length that the next byte has
pub one_read : (bytes tail : List ℕ) (r : Option Length) → bytes ≡ 129 ∷ tail
    → MatchOption r ((n : ℕ) (rest : List ℕ) → 128 ≤ n → n < 256 → tail ≡ n ∷ rest → ⊥)
    (λ length. (128 ≤ length.number) × (length.number < 256) × (tail ≡ length.number ∷ length.rest.now))
    → MatchOption r ((n : ℕ) (rest : List ℕ) → n < 2 ^ 16 → bytes ≡ length_form n ++ rest → ⊥)
    (λ length. (length.number < 2 ^ 16) × (bytes ≡ length_form length.number ++ length.rest.now))
one_read bytes tail None whole none = λ n rest below e. none_in_one bytes tail n rest whole none (begins_form bytes n rest e)
one_read bytes tail (Some l) whole h =
    let least = h.0 in
    let most = h.1 in
    (omega arith, rw (one_byte_form l.number h.0 h.1) (whole ∙ ap (λ (x : List ℕ). 129 ∷ x) h.2))

none_in_two : (bytes tail : List ℕ) (n : ℕ) (rest : List ℕ) → n < 2 ^ 16 → bytes ≡ 130 ∷ tail
    → ((n : ℕ) (rest : List ℕ) → 256 ≤ n → n < 2 ^ 16 → tail ≡ (n / 256) ∷ (n % 256) ∷ rest → ⊥) → BeginsForm bytes n rest → ⊥
none_in_two bytes tail n rest below whole none (in_itself h e) = let first : n ≡ 130 = cc in omega arith
none_in_two bytes tail n rest below whole none (in_one h l e) = let first : ◌≡◌ {A = ℕ} 130 129 = cc in omega arith
none_in_two bytes tail n rest below whole none (in_two h e) = none n rest h below (cc)

-- the length that the next two bytes have
pub two_read : (bytes tail : List ℕ) (r : Option Length) → bytes ≡ 130 ∷ tail
    → MatchOption r ((n : ℕ) (rest : List ℕ) → 256 ≤ n → n < 2 ^ 16 → tail ≡ (n / 256) ∷ (n % 256) ∷ rest → ⊥)
    (λ length. (256 ≤ length.number) × (length.number < 2 ^ 16) × (tail ≡ (length.number / 256) ∷ (length.number % 256) ∷ length.rest.now))
    → MatchOption r ((n : ℕ) (rest : List ℕ) → n < 2 ^ 16 → bytes ≡ length_form n ++ rest → ⊥)
    (λ length. (length.number < 2 ^ 16) × (bytes ≡ length_form length.number ++ length.rest.now))
two_read bytes tail None whole none = λ n rest below e. none_in_two bytes tail n rest below whole none (begins_form bytes n rest e)
two_read bytes tail (Some l) whole h =
    (h.1, rw (two_byte_form l.number h.0) (whole ∙ ap (λ (x : List ℕ). 130 ∷ x) h.2))

other_first : (bytes tail : List ℕ) (b n : ℕ) (rest : List ℕ) → bytes ≡ b ∷ tail → 128 ≤ b → (b ≡ 129 → ⊥) → (b ≡ 130 → ⊥)
    → BeginsForm bytes n rest → ⊥
other_first bytes tail b n rest whole least one two (in_itself h e) = let first : n ≡ b = cc in omega arith
other_first bytes tail b n rest whole least one two (in_one h l e) = one (cc)
other_first bytes tail b n rest whole least one two (in_two h e) = two (cc)

-- no length begins with any other byte
pub none_read : (bytes : List ℕ) → 0 < length bytes → 128 ≤ get_or bytes 0 0 → (get_or bytes 0 0 ≡ 129 → ⊥) → (get_or bytes 0 0 ≡ 130 → ⊥)
    → (n : ℕ) (rest : List ℕ) → n < 2 ^ 16 → bytes ≡ length_form n ++ rest → ⊥
none_read bytes some least one two n rest below e =
    other_first bytes _ (get_or bytes 0 0) n rest (first_and_rest bytes some) least one two (begins_form bytes n rest e)

pub no_bytes : (bytes : List ℕ) (b : Bool) → b ≡ (length bytes == 0) → b ≡ true → length bytes ≡ 0
no_bytes bytes b e h = eqb-true (length bytes) 0 (sym e ∙ h)

pub some_bytes : (bytes : List ℕ) (b : Bool) → b ≡ (length bytes == 0) → b ≡ false → 0 < length bytes
some_bytes bytes b e h = let some = eqb-false (length bytes) 0 (sym e ∙ h) in omega arith

-- bytes whose first is known
pub begins_with : (bytes : List ℕ) (b : ℕ) → 0 < length bytes → get_or bytes 0 0 ≡ b
    → bytes ≡ b ∷ take (length bytes - 1) (drop 1 bytes)
begins_with bytes b some e =
    first_and_rest bytes some ∙ ap (λ (x : ℕ). x ∷ take (length bytes - 1) (drop 1 bytes)) e
