-- Times and what their texts are made of.
use Rattle.std.proofs.Common.{◌≡◌, ◌∙◌, ℕ, ◌+◌, ◌/◌, ◌%◌, ◌<◌, ◌≤◌, ℤ, pos, ◌+ℤ◌, ◌*ℤ◌, List, []}
use Rattle.std.proofs.Common.{◌∷◌, ◌++◌, length, take, drop, arith, ap, sym, subst, lit<}
use Rattle.std.proofs.Common.{length-append, codes}
use Rattle.std.proofs.Common.{Result, Ok, Err, MatchResult}
use Rattle.std.specs.Result.{result_ok}
use Rattle.std.specs.Str.{IsAscii, IsUtf8}
use Rattle.std.proofs.lemmas.Int.{ints}
use Rattle.std.proofs.lemmas.List.{append_cancel_right, drop_at, take_at, take-append-drop}
use Rattle.std.proofs.lemmas.Str.{IsUtf8-from_ascii}
use Rattle.std.proofs.lemmas.Str.Ascii.{IsAscii-cons, IsAscii-nil}
use Rattle.jiff.specs.Words.{days_in_month}
use Rattle.it_base.specs.Finds.{Finds}
use Rattle.it_docs.specs.Moment.{MomentOf, moment_text}
use Rattle.it_trust_root.specs.Time.{IsFraction, TimeOf}

-- two digits before the rest of a text
two : (n : ℕ) (rest : List ℕ) → n < 100 → IsAscii rest → IsAscii ((48 + n / 10) ∷ (48 + n % 10) ∷ rest)
two n rest below h =
    IsAscii-cons (48 + n / 10) ((48 + n % 10) ∷ rest) (omega arith)
    (IsAscii-cons (48 + n % 10) rest (omega arith) h)

days_at_most : (year : ℤ) (month : ℕ) → days_in_month year month ≤ 31
days_at_most year month = grind arith

ascii_moment : (year month day hour minute second : ℕ) → year < 10000 → month < 100 → day < 100
    → hour < 100 → minute < 100 → second < 100 → IsAscii (moment_text year month day hour minute second)
ascii_moment year month day hour minute second y m d h n s =
    let seconds : IsAscii ((48 + second / 10) ∷ (48 + second % 10) ∷ 90 ∷ []) = two second (90 ∷ []) s (IsAscii-cons 90 [] (lit< tt) IsAscii-nil) in
    let minutes : IsAscii ((48 + minute / 10) ∷ (48 + minute % 10) ∷ 58 ∷ (48 + second / 10) ∷ (48 + second % 10) ∷ 90 ∷ []) = two minute (58 ∷ (48 + second / 10) ∷ (48 + second % 10) ∷ 90 ∷ []) n (IsAscii-cons 58 ((48 + second / 10) ∷ (48 + second % 10) ∷ 90 ∷ []) (lit< tt) seconds) in
    let hours : IsAscii ((48 + hour / 10) ∷ (48 + hour % 10) ∷ 58 ∷ (48 + minute / 10) ∷ (48 + minute % 10) ∷ 58 ∷ (48 + second / 10) ∷ (48 + second % 10) ∷ 90 ∷ []) = two hour (58 ∷ (48 + minute / 10) ∷ (48 + minute % 10) ∷ 58 ∷ (48 + second / 10) ∷ (48 + second % 10) ∷ 90 ∷ []) h (IsAscii-cons 58 ((48 + minute / 10) ∷ (48 + minute % 10) ∷ 58 ∷ (48 + second / 10) ∷ (48 + second % 10) ∷ 90 ∷ []) (lit< tt) minutes) in
    let days : IsAscii ((48 + day / 10) ∷ (48 + day % 10) ∷ 84 ∷ (48 + hour / 10) ∷ (48 + hour % 10) ∷ 58 ∷ (48 + minute / 10) ∷ (48 + minute % 10) ∷ 58 ∷ (48 + second / 10) ∷ (48 + second % 10) ∷ 90 ∷ []) = two day (84 ∷ (48 + hour / 10) ∷ (48 + hour % 10) ∷ 58 ∷ (48 + minute / 10) ∷ (48 + minute % 10) ∷ 58 ∷ (48 + second / 10) ∷ (48 + second % 10) ∷ 90 ∷ []) d (IsAscii-cons 84 ((48 + hour / 10) ∷ (48 + hour % 10) ∷ 58 ∷ (48 + minute / 10) ∷ (48 + minute % 10) ∷ 58 ∷ (48 + second / 10) ∷ (48 + second % 10) ∷ 90 ∷ []) (lit< tt) hours) in
    let months : IsAscii ((48 + month / 10) ∷ (48 + month % 10) ∷ 45 ∷ (48 + day / 10) ∷ (48 + day % 10) ∷ 84 ∷ (48 + hour / 10) ∷ (48 + hour % 10) ∷ 58 ∷ (48 + minute / 10) ∷ (48 + minute % 10) ∷ 58 ∷ (48 + second / 10) ∷ (48 + second % 10) ∷ 90 ∷ []) = two month (45 ∷ (48 + day / 10) ∷ (48 + day % 10) ∷ 84 ∷ (48 + hour / 10) ∷ (48 + hour % 10) ∷ 58 ∷ (48 + minute / 10) ∷ (48 + minute % 10) ∷ 58 ∷ (48 + second / 10) ∷ (48 + second % 10) ∷ 90 ∷ []) m (IsAscii-cons 45 ((48 + day / 10) ∷ (48 + day % 10) ∷ 84 ∷ (48 + hour / 10) ∷ (48 + hour % 10) ∷ 58 ∷ (48 + minute / 10) ∷ (48 + minute % 10) ∷ 58 ∷ (48 + second / 10) ∷ (48 + second % 10) ∷ 90 ∷ []) (lit< tt) days) in
    let years : IsAscii ((48 + year % 100 / 10) ∷ (48 + year % 100 % 10) ∷ 45 ∷ (48 + month / 10) ∷ (48 + month % 10) ∷ 45 ∷ (48 + day / 10) ∷ (48 + day % 10) ∷ 84 ∷ (48 + hour / 10) ∷ (48 + hour % 10) ∷ 58 ∷ (48 + minute / 10) ∷ (48 + minute % 10) ∷ 58 ∷ (48 + second / 10) ∷ (48 + second % 10) ∷ 90 ∷ []) = two (year % 100) (45 ∷ (48 + month / 10) ∷ (48 + month % 10) ∷ 45 ∷ (48 + day / 10) ∷ (48 + day % 10) ∷ 84 ∷ (48 + hour / 10) ∷ (48 + hour % 10) ∷ 58 ∷ (48 + minute / 10) ∷ (48 + minute % 10) ∷ 58 ∷ (48 + second / 10) ∷ (48 + second % 10) ∷ 90 ∷ []) (omega arith) (IsAscii-cons 45 ((48 + month / 10) ∷ (48 + month % 10) ∷ 45 ∷ (48 + day / 10) ∷ (48 + day % 10) ∷ 84 ∷ (48 + hour / 10) ∷ (48 + hour % 10) ∷ 58 ∷ (48 + minute / 10) ∷ (48 + minute % 10) ∷ 58 ∷ (48 + second / 10) ∷ (48 + second % 10) ∷ 90 ∷ []) (lit< tt) months) in
    two (year / 100) ((48 + year % 100 / 10) ∷ (48 + year % 100 % 10) ∷ 45 ∷ (48 + month / 10) ∷ (48 + month % 10) ∷ 45 ∷ (48 + day / 10) ∷ (48 + day % 10) ∷ 84 ∷ (48 + hour / 10) ∷ (48 + hour % 10) ∷ 58 ∷ (48 + minute / 10) ∷ (48 + minute % 10) ∷ 58 ∷ (48 + second / 10) ∷ (48 + second % 10) ∷ 90 ∷ []) (omega arith) years

pub moment_is_text : (text : List ℕ) (moment : ℤ) → MomentOf text moment → IsUtf8 text
moment_is_text text moment is =
    let below = (rw is.year_is at is.date.year_in).1 in
    let hour = is.hour_in in
    let minute = is.minute_in in
    let second = is.second_in in
    rw is.text_is (IsUtf8-from_ascii _ (ascii_moment is.year is.date.month is.date.day is.hour is.minute
    is.second (omega (arith, ints, below)) (omega (arith, is.date.month_in))
    (omega (arith, is.date.day_in, days_at_most is.date.year is.date.month)) (omega arith)
    (omega arith) (omega arith)))

-- a moment up to its second has 19 bytes
second_long : (to_second : List ℕ) (moment : ℤ) → MomentOf (to_second ++ codes "Z") moment
    → length to_second ≡ 19
second_long to_second moment is =
    let whole : length (to_second ++ codes "Z") ≡ 20 = ap length is.text_is in
    omega (arith, length-append to_second (codes "Z"))

-- a time begins with its moment up to the second, and goes on with the fraction
pub front_is : (text : List ℕ) (time : ℤ) (is : TimeOf text time) → take 19 text ≡ is.to_second
front_is text time is = ap (take 19) is.written
    ∙ take_at is.to_second (is.fraction ++ codes "Z") 19 (second_long is.to_second is.moment is.moment_is)

pub back_is : (text : List ℕ) (time : ℤ) (is : TimeOf text time) → drop 19 text ≡ is.fraction ++ codes "Z"
back_is text time is = ap (drop 19) is.written
    ∙ drop_at is.to_second (is.fraction ++ codes "Z") 19 (second_long is.to_second is.moment is.moment_is)

-- texts that are no time
pub not_short : (text : List ℕ) (time : ℤ) → length text < 19 → ¬ TimeOf text time
not_short text time short is = omega (
  arith,
  second_long is.to_second is.moment is.moment_is,
  ap length is.written,
  length-append is.to_second (is.fraction ++ codes "Z"),
)

pub not_without_zone : (text rest : List ℕ) (time : ℤ) → rest ≡ drop 19 text
    → ((before : List ℕ) → ¬ (rest ≡ before ++ codes "Z")) → ¬ TimeOf text time
not_without_zone text rest time cut none is = none is.fraction (cut ∙ back_is text time is)

pub not_without_moment : (text front : List ℕ) (time : ℤ) → front ≡ take 19 text
    → ((moment : ℤ) → ¬ MomentOf (front ++ codes "Z") moment) → ¬ TimeOf text time
not_without_moment text front time cut none is =
    none is.moment (subst (λ f. MomentOf (f ++ codes "Z") is.moment) (sym (cut ∙ front_is text time is))
    is.moment_is)

pub not_without_fraction : (text rest fraction : List ℕ) (time : ℤ) → rest ≡ drop 19 text
    → rest ≡ fraction ++ codes "Z" → ((n : ℕ) → ¬ IsFraction fraction n) → ¬ TimeOf text time
not_without_fraction text rest fraction time cut ends none is =
    let same : is.fraction ≡ fraction = append_cancel_right is.fraction fraction (codes "Z")
    (sym (back_is text time is) ∙ sym cut ∙ ends) in
    none is.nanoseconds (subst (λ f. IsFraction f is.nanoseconds) same is.fraction_is)

-- a text that is a time
pub is_time : (text front rest fraction : List ℕ) (moment time : ℤ) (n : ℕ) → front ≡ take 19 text
    → rest ≡ drop 19 text → rest ≡ fraction ++ codes "Z" → MomentOf (front ++ codes "Z") moment
    → IsFraction fraction n → time ≡ (pos 1_000_000_000 *ℤ moment) +ℤ pos n → TimeOf text time
is_time text front rest fraction moment time n cut left ends moment_is fraction_is time_is = record {
  to_second = front;
  fraction = fraction;
  moment = moment;
  nanoseconds = n;
  written = sym (take-append-drop 19 text)
      ∙ ap (λ f. f ++ drop 19 text) (sym cut) ∙ ap (λ b. front ++ b) (sym left ∙ ends);
  moment_is = moment_is;
  fraction_is = fraction_is;
  time_is = time_is;
}

-- a moment that is read
pub moment_found : {E : Type 0} (text : List ℕ) (r : Result ℤ E)
    → MatchResult r (MomentOf text) (λ _. (moment : ℤ) → ¬ MomentOf text moment)
    → Finds (MomentOf text) (result_ok r)
moment_found text (Ok moment) h = h
moment_found text (Err e) h = h
