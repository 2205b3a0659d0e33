-- The parts of a time, read at their places.
use Rattle.std.proofs.Common.{◌≡◌, ℕ, ◌+◌, ◌-◌, ◌*◌, ◌/◌, ◌%◌, ◌<◌, ◌≤◌, ℤ, pos, List, [], ◌∷◌, ◌++◌, length, get_or, take, drop}
use Rattle.std.proofs.Common.{Option, Some, None, MatchOption, inl, inr, map, sym, ap, subst, ◌∙◌, arith}
use Rattle.std.proofs.lemmas.Slice.Eq.{text_from_reads}
use Rattle.jiff.specs.Words.{IsYmd, epoch_day}
use Rattle.it_der.proofs.Reading.{rest_from}
use Rattle.it_calendar.specs.Digits.{AreTwoDigits, two_digits_of}
use Rattle.it_der.specs.Element.{tagged_of}
use Rattle.it_der.specs.declared.elements.Element.{Element}
use Rattle.it_certificate.specs.Time.{IsAfterYear, ShortTime, LongTime, TimeOf, after_year_text, short_year}
use Rattle.it_certificate.specs.Validity.{AreTimes}
use Rattle.it_certificate.specs.declared.time.Moment.{Moment}
use Rattle.it_certificate.specs.declared.validity.Validity.{Validity}

-- the bytes at these places are the two digits of the number
abbrev pub HasNumber : List ℕ → ℕ → ℕ → ℕ → Type 0
HasNumber text i j n = AreTwoDigits (get_or text i 0) (get_or text j 0) n

pub text_from_numbers : (text : List ℕ) (month day hour minute second : ℕ) → length text ≡ 11 → get_or text 10 0 ≡ 90
    → HasNumber text 0 1 month → HasNumber text 2 3 day → HasNumber text 4 5 hour → HasNumber text 6 7 minute → HasNumber text 8 9 second
    → text ≡ after_year_text month day hour minute second
text_from_numbers text month day hour minute second long last m d h n s =
    text_from_reads text _ long
    (m.1, (m.2, (d.1, (d.2, (h.1, (h.2, (n.1, (n.2, (s.1, (s.2, (last, tt)))))))))))

pub date_from_numbers : (year : ℕ) (text : List ℕ) (moment : ℤ) (is : IsAfterYear year text moment) (month day : ℕ)
    → HasNumber text 0 1 month → HasNumber text 2 3 day → IsYmd (pos year) (pos month) (pos day) is.date
date_from_numbers year text moment is month day m d =
    let e0 = ap (λ (l : List ℕ). get_or l 0 0) is.text_is in
    let e1 = ap (λ (l : List ℕ). get_or l 1 0) is.text_is in
    let e2 = ap (λ (l : List ℕ). get_or l 2 0) is.text_is in
    let e3 = ap (λ (l : List ℕ). get_or l 3 0) is.text_is in
    let month_is : is.date.month ≡ month = omega (arith, m) in
    let day_is : is.date.day ≡ day = omega (arith, d) in
    (is.year_is, ap pos month_is, ap pos day_is)

pub time_from_numbers : (year : ℕ) (text : List ℕ) (moment : ℤ) → IsAfterYear year text moment → (hour minute second : ℕ)
    → HasNumber text 4 5 hour → HasNumber text 6 7 minute → HasNumber text 8 9 second → (hour < 24) × (minute < 60) × (second < 60)
time_from_numbers year text moment is hour minute second h n s =
    let e4 = ap (λ (l : List ℕ). get_or l 4 0) is.text_is in
    let e5 = ap (λ (l : List ℕ). get_or l 5 0) is.text_is in
    let e6 = ap (λ (l : List ℕ). get_or l 6 0) is.text_is in
    let e7 = ap (λ (l : List ℕ). get_or l 7 0) is.text_is in
    let e8 = ap (λ (l : List ℕ). get_or l 8 0) is.text_is in
    let e9 = ap (λ (l : List ℕ). get_or l 9 0) is.text_is in
    (omega arith, omega arith, omega arith)

-- a text is one moment at most
pub same_moment : (year : ℕ) (text : List ℕ) (x y : ℤ) → IsAfterYear year text x → IsAfterYear year text y → x ≡ y
same_moment year text x y is js =
    let texts = sym is.text_is ∙ js.text_is in
    let e0 = ap (λ (l : List ℕ). get_or l 0 0) texts in
    let e1 = ap (λ (l : List ℕ). get_or l 1 0) texts in
    let e2 = ap (λ (l : List ℕ). get_or l 2 0) texts in
    let e3 = ap (λ (l : List ℕ). get_or l 3 0) texts in
    let e4 = ap (λ (l : List ℕ). get_or l 4 0) texts in
    let e5 = ap (λ (l : List ℕ). get_or l 5 0) texts in
    let e6 = ap (λ (l : List ℕ). get_or l 6 0) texts in
    let e7 = ap (λ (l : List ℕ). get_or l 7 0) texts in
    let e8 = ap (λ (l : List ℕ). get_or l 8 0) texts in
    let e9 = ap (λ (l : List ℕ). get_or l 9 0) texts in
    let years : is.date.year ≡ js.date.year = is.year_is ∙ sym js.year_is in
    let month : is.date.month ≡ js.date.month = omega arith in
    let day : is.date.day ≡ js.date.day = omega arith in
    let hour : is.hour ≡ js.hour = omega arith in
    let minute : is.minute ≡ js.minute = omega arith in
    let second : is.second ≡ js.second = omega arith in
    let days : epoch_day is.date ≡ epoch_day js.date = cc in
    is.number_is ∙ rw (days, hour, minute, second) (sym js.number_is)

short_is : (content : List ℕ) (digits : ℕ) → 2 ≤ length content → HasNumber content 0 1 digits
    → content ≡ two_digits_of digits ++ take (length content - 2) (drop 2 content)
short_is [] digits long d = absurd (omega arith)
short_is (a ∷ []) digits long d = absurd (omega arith)
short_is (a ∷ b ∷ xs) digits long d =
    let first : a ≡ 48 + digits / 10 = d.1 in
    let second : b ≡ 48 + digits % 10 = d.2 in
    let rest : take (length (a ∷ b ∷ xs) - 2) xs ≡ xs = rest_from (a ∷ b ∷ xs) 2 in
    let head : a ∷ b ∷ xs ≡ two_digits_of digits ++ xs = cc in
    head ∙ ap (λ (l : List ℕ). two_digits_of digits ++ l) (sym rest)

long_is : (content : List ℕ) (century digits : ℕ) → 4 ≤ length content → HasNumber content 0 1 century → HasNumber content 2 3 digits
    → content ≡ two_digits_of ((100 * century + digits) / 100) ++ two_digits_of ((100 * century + digits) % 100)
    ++ take (length content - 4) (drop 4 content)
long_is [] century digits long c d = absurd (omega arith)
long_is (a ∷ []) century digits long c d = absurd (omega arith)
long_is (a ∷ b ∷ []) century digits long c d = absurd (omega arith)
long_is (a ∷ b ∷ x ∷ []) century digits long c d = absurd (omega arith)
long_is (a ∷ b ∷ x ∷ y ∷ xs) century digits long c d =
    let high : (100 * century + digits) / 100 ≡ century = omega (arith, c, d) in
    let low : (100 * century + digits) % 100 ≡ digits = omega (arith, c, d) in
    let first : a ≡ 48 + century / 10 = c.1 in
    let second : b ≡ 48 + century % 10 = c.2 in
    let third : x ≡ 48 + digits / 10 = d.1 in
    let fourth : y ≡ 48 + digits % 10 = d.2 in
    let rest : take (length (a ∷ b ∷ x ∷ y ∷ xs) - 4) xs ≡ xs = rest_from (a ∷ b ∷ x ∷ y ∷ xs) 4 in
    let head : a ∷ b ∷ x ∷ y ∷ xs ≡ two_digits_of century ++ two_digits_of digits ++ xs = cc in
    head ∙ ap (λ (n : ℕ). two_digits_of n ++ two_digits_of digits ++ xs) (sym high)
    ∙ ap (λ (n : ℕ). two_digits_of ((100 * century + digits) / 100) ++ two_digits_of n ++ xs) (sym low)
    ∙ ap (λ (l : List ℕ). two_digits_of ((100 * century + digits) / 100) ++ two_digits_of ((100 * century + digits) % 100) ++ l) (sym rest)

-- a time with a year of two digits, by what is written after them
pub short_found : (content : List ℕ) (digits : ℕ) (r : Option Moment) → 2 ≤ length content → HasNumber content 0 1 digits
    → MatchOption r ((m : ℤ) → IsAfterYear (short_year digits) (take (length content - 2) (drop 2 content)) m → ⊥)
    (λ m. IsAfterYear (short_year digits) (take (length content - 2) (drop 2 content)) m.seconds)
    → MatchOption r ((m : ℤ) → ShortTime content m → ⊥) (λ m. ShortTime content m.seconds)
short_found content digits None long d none = λ m is.
    let e0 = ap (λ (l : List ℕ). get_or l 0 0) is.content_is in
    let e1 = ap (λ (l : List ℕ). get_or l 1 0) is.content_is in
    let below = is.below in
    let same : is.digits ≡ digits = omega (arith, d) in
    let text : is.text ≡ take (length content - 2) (drop 2 content) =
    sym (rest_from content 2 ∙ ap (λ (l : List ℕ). drop 2 l) is.content_is) in
    none m (subst (λ (n : ℕ). IsAfterYear (short_year n) (take (length content - 2) (drop 2 content)) m) same
    (subst (λ (t : List ℕ). IsAfterYear (short_year is.digits) t m) text is.text_is))
short_found content digits (Some m) long d found = record {
  digits = digits;
  text = take (length content - 2) (drop 2 content);
  below = d.0;
  content_is = short_is content digits long d;
  text_is = found;
}

-- the same with a year of four digits
pub long_found : (content : List ℕ) (century digits : ℕ) (r : Option Moment) → 4 ≤ length content → HasNumber content 0 1 century
    → HasNumber content 2 3 digits → 2050 ≤ 100 * century + digits
    → MatchOption r ((m : ℤ) → IsAfterYear (100 * century + digits) (take (length content - 4) (drop 4 content)) m → ⊥)
    (λ m. IsAfterYear (100 * century + digits) (take (length content - 4) (drop 4 content)) m.seconds)
    → MatchOption r ((m : ℤ) → LongTime content m → ⊥) (λ m. LongTime content m.seconds)
long_found content century digits None long c d least none = λ m is.
    let e0 = ap (λ (l : List ℕ). get_or l 0 0) is.content_is in
    let e1 = ap (λ (l : List ℕ). get_or l 1 0) is.content_is in
    let e2 = ap (λ (l : List ℕ). get_or l 2 0) is.content_is in
    let e3 = ap (λ (l : List ℕ). get_or l 3 0) is.content_is in
    let until = is.until in
    let high : is.year / 100 ≡ century = omega (arith, c) in
    let low : is.year % 100 ≡ digits = omega (arith, d) in
    let same : is.year ≡ 100 * century + digits = omega arith in
    let text : is.text ≡ take (length content - 4) (drop 4 content) =
    sym (rest_from content 4 ∙ ap (λ (l : List ℕ). drop 4 l) is.content_is) in
    none m (subst (λ (n : ℕ). IsAfterYear n (take (length content - 4) (drop 4 content)) m) same
    (subst (λ (t : List ℕ). IsAfterYear is.year t m) text is.text_is))
long_found content century digits (Some m) long c d least found = record {
  year = 100 * century + digits;
  text = take (length content - 4) (drop 4 content);
  since = least;
  until = omega (arith, c, d);
  content_is = long_is content century digits long c d;
  text_is = found;
}

-- a time by its tag
not_short : (tag : ℕ) (content : List ℕ) (m : ℤ) → tag ≡ 23 → (ShortTime content m → ⊥) → TimeOf tag content m → ⊥
not_short tag content m is none (inl p) = none p.1
not_short tag content m is none (inr p) = let other = p.0 in absurd (omega arith)

not_long : (tag : ℕ) (content : List ℕ) (m : ℤ) → tag ≡ 24 → (LongTime content m → ⊥) → TimeOf tag content m → ⊥
not_long tag content m is none (inl p) = let other = p.0 in absurd (omega arith)
not_long tag content m is none (inr p) = none p.1

pub utc_found : (tag : ℕ) (content : List ℕ) (r : Option Moment) → tag ≡ 23
    → MatchOption r ((m : ℤ) → ShortTime content m → ⊥) (λ m. ShortTime content m.seconds)
    → MatchOption r ((m : ℤ) → TimeOf tag content m → ⊥) (λ m. TimeOf tag content m.seconds)
utc_found tag content None is none = λ m time. not_short tag content m is (none m) time
utc_found tag content (Some m) is found = inl (is, found)

pub generalized_found : (tag : ℕ) (content : List ℕ) (r : Option Moment) → tag ≡ 24
    → MatchOption r ((m : ℤ) → LongTime content m → ⊥) (λ m. LongTime content m.seconds)
    → MatchOption r ((m : ℤ) → TimeOf tag content m → ⊥) (λ m. TimeOf tag content m.seconds)
generalized_found tag content None is none = λ m time. not_long tag content m is (none m) time
generalized_found tag content (Some m) is found = inr (is, found)

-- two times, by the two elements that they are
pub no_first : (es : List Element) (d : Element) → length es ≡ 2
    → ((m : ℤ) → TimeOf (get_or es 0 d).tag (get_or es 0 d).content.now m → ⊥)
    → (v : Validity) → AreTimes (map tagged_of es) v → ⊥
no_first [] d long none v is = is
no_first (a ∷ []) d long none v is = is
no_first (a ∷ b ∷ []) d long none v is = none v.first.seconds is.0
no_first (a ∷ b ∷ c ∷ es) d long none v is = is

pub no_last : (es : List Element) (d : Element) → length es ≡ 2
    → ((m : ℤ) → TimeOf (get_or es 1 d).tag (get_or es 1 d).content.now m → ⊥)
    → (v : Validity) → AreTimes (map tagged_of es) v → ⊥
no_last [] d long none v is = is
no_last (a ∷ []) d long none v is = is
no_last (a ∷ b ∷ []) d long none v is = none v.last.seconds is.1
no_last (a ∷ b ∷ c ∷ es) d long none v is = is

pub both_times : (es : List Element) (d e : Element) (v : Validity) → length es ≡ 2
    → TimeOf (get_or es 0 d).tag (get_or es 0 d).content.now v.first.seconds
    → TimeOf (get_or es 1 e).tag (get_or es 1 e).content.now v.last.seconds → AreTimes (map tagged_of es) v
both_times [] d e v long one two = absurd (omega arith)
both_times (a ∷ []) d e v long one two = absurd (omega arith)
both_times (a ∷ b ∷ []) d e v long one two = (one, two)
both_times (a ∷ b ∷ c ∷ es) d e v long one two = absurd (omega arith)
