-- Which moment a text is, as an answer.
use Rattle.std.proofs.Common.{◌≡◌, ℕ, ◌+◌, ◌*◌, ◌-◌, ◌/◌, ◌%◌, ◌<◌, ◌≤◌, ℤ, pos, ◌+ℤ◌, ◌*ℤ◌, List}
use Rattle.std.proofs.Common.{length, get_or, Bool, true, false, ◌&&◌, eqb, ltb, leb, eqb-true}
use Rattle.std.proofs.Common.{eq-eqb, leb-true, le-leb, Option, Some, None, option_and_then}
use Rattle.std.proofs.Common.{MatchOption, Decides, arith, refl, sym, subst, true≢false}
use Rattle.std.proofs.lemmas.Bool.Decides.{Decides-and, Decides-ltb}
use Rattle.std.proofs.lemmas.Int.{ints}
use Rattle.serde_json.specs.Data.{Data}
use Rattle.serde_json.specs.Find.{as_str}
use Rattle.jiff.specs.Types.{Date}
use Rattle.jiff.specs.Words.{days_in_month, epoch_day}
use Rattle.it_base.specs.Finds.{Finds}
use Rattle.it_base.proofs.Decided.{Reads}
use Rattle.it_docs.specs.Moment.{IsMoment, MomentOf, moment_text}
use Rattle.it_docs.proofs.Moments.{HasMarks, HasNumber, text_from_numbers}

-- the number that two digits at these places are
abbrev number_at : List ℕ → ℕ → ℕ → ℕ
number_at text i j = 10 * (get_or text i 0 - 48) + (get_or text j 0 - 48)

abbrev year_at : List ℕ → ℕ
year_at text = 100 * number_at text 0 1 + number_at text 2 3

-- a number lies from one to another
abbrev IsFromTo : ℕ → ℕ → ℕ → Type 0
IsFromTo low high n = (low ≤ n) × (n ≤ high)

abbrev AreDigits : List ℕ → ℕ → ℕ → Type 0
AreDigits text i j = IsFromTo 48 57 (get_or text i 0) × IsFromTo 48 57 (get_or text j 0)

-- what a text has that is a moment
record IsMomentText (text : List ℕ) : Type 0 where
  marks : HasMarks text
  century : AreDigits text 0 1
  years : AreDigits text 2 3
  month : AreDigits text 5 6
  day : AreDigits text 8 9
  hour : AreDigits text 11 12
  minute : AreDigits text 14 15
  second : AreDigits text 17 18
  month_in : IsFromTo 1 12 (number_at text 5 6)
  day_in : IsFromTo 1 (days_in_month (pos (year_at text)) (number_at text 5 6)) (number_at text 8 9)
  hour_in : number_at text 11 12 < 24
  minute_in : number_at text 14 15 < 60
  second_in : number_at text 17 18 < 60

abbrev is_from_to : ℕ → ℕ → ℕ → Bool
is_from_to low high n = leb low n && leb n high

abbrev are_digits : List ℕ → ℕ → ℕ → Bool
are_digits text i j = is_from_to 48 57 (get_or text i 0) && is_from_to 48 57 (get_or text j 0)

abbrev has_mark : List ℕ → ℕ → ℕ → Bool
has_mark text i mark = eqb (get_or text i 0) mark

abbrev has_marks : List ℕ → Bool
has_marks text = eqb (length text) 20
    && (has_mark text 4 45
    && (has_mark text 7 45
    && (has_mark text 10 84
    && (has_mark text 13 58 && (has_mark text 16 58 && has_mark text 19 90)))))

abbrev has_numbers : List ℕ → Bool
has_numbers text = are_digits text 0 1
    && (are_digits text 2 3
    && (are_digits text 5 6
    && (are_digits text 8 9
    && (are_digits text 11 12 && (are_digits text 14 15 && are_digits text 17 18)))))

abbrev is_date_and_time : List ℕ → Bool
is_date_and_time text =
    is_from_to 1 12 (number_at text 5 6)
    && (is_from_to 1 (days_in_month (pos (year_at text)) (number_at text 5 6))
    (number_at text 8 9)
    && (ltb (number_at text 11 12) 24
    && (ltb (number_at text 14 15) 60 && ltb (number_at text 17 18) 60)))

from_to-Decides : (low high n : ℕ) → Decides (is_from_to low high n) (IsFromTo low high n)
from_to-Decides low high n = Decides-and (leb low n) (leb n high) (leb-true low n, le-leb low n)
    (leb-true n high, le-leb n high)

digits-Decides : (text : List ℕ) (i j : ℕ) → Decides (are_digits text i j) (AreDigits text i j)
digits-Decides text i j = Decides-and _ _ (from_to-Decides 48 57 (get_or text i 0))
    (from_to-Decides 48 57 (get_or text j 0))

mark-Decides : (n mark : ℕ) → Decides (eqb n mark) (n ≡ mark)
mark-Decides n mark = (eqb-true n mark, eq-eqb n mark)

marks-Decides : (text : List ℕ)
    → Decides (has_marks text) ((length text ≡ 20)
    × ((get_or text 4 0 ≡ 45)
    × ((get_or text 7 0 ≡ 45)
    × ((get_or text 10 0 ≡ 84)
    × ((get_or text 13 0 ≡ 58) × ((get_or text 16 0 ≡ 58) × (get_or text 19 0 ≡ 90)))))))
marks-Decides text =
    let at = λ (i mark : ℕ). mark-Decides (get_or text i 0) mark in
    Decides-and _ _ (mark-Decides (length text) 20)
    (Decides-and _ _ (at 4 45)
    (Decides-and _ _ (at 7 45)
    (Decides-and _ _ (at 10 84)
    (Decides-and _ _ (at 13 58) (Decides-and _ _ (at 16 58) (at 19 90))))))

numbers-Decides : (text : List ℕ)
    → Decides (has_numbers text) (AreDigits text 0 1
    × (AreDigits text 2 3
    × (AreDigits text 5 6
    × (AreDigits text 8 9
    × (AreDigits text 11 12 × (AreDigits text 14 15 × AreDigits text 17 18))))))
numbers-Decides text =
    let at = digits-Decides text in
    Decides-and _ _ (at 0 1)
    (Decides-and _ _ (at 2 3)
    (Decides-and _ _ (at 5 6)
    (Decides-and _ _ (at 8 9)
    (Decides-and _ _ (at 11 12) (Decides-and _ _ (at 14 15) (at 17 18))))))

date_and_time-Decides : (text : List ℕ)
    → Decides (is_date_and_time text) (IsFromTo 1 12 (number_at text 5 6)
    × (IsFromTo 1 (days_in_month (pos (year_at text)) (number_at text 5 6)) (number_at text 8 9)
    × ((number_at text 11 12 < 24)
    × ((number_at text 14 15 < 60) × (number_at text 17 18 < 60)))))
date_and_time-Decides text =
    Decides-and _ _ (from_to-Decides 1 12 (number_at text 5 6))
    (Decides-and _ _
    (from_to-Decides 1 (days_in_month (pos (year_at text)) (number_at text 5 6))
    (number_at text 8 9))
    (Decides-and _ _ (Decides-ltb (number_at text 11 12) 24)
    (Decides-and _ _ (Decides-ltb (number_at text 14 15) 60)
    (Decides-ltb (number_at text 17 18) 60))))

moment_text-Decides : (text : List ℕ)
    → Decides (has_marks text && (has_numbers text && is_date_and_time text)) (IsMomentText text)
moment_text-Decides text =
    let all = Decides-and (has_marks text) (has_numbers text && is_date_and_time text)
    (marks-Decides text) (Decides-and (has_numbers text) (is_date_and_time text)
    (numbers-Decides text) (date_and_time-Decides text)) in (
      λ e.
          let h = all.0 e in
          let m = h.0 in
          let n = h.1.0 in
          let d = h.1.1 in
          record {
            marks = (m.0, m.1.0, m.1.1.0, m.1.1.1.0, m.1.1.1.1.0, m.1.1.1.1.1.0, m.1.1.1.1.1.1);
            century = n.0;
            years = n.1.0;
            month = n.1.1.0;
            day = n.1.1.1.0;
            hour = n.1.1.1.1.0;
            minute = n.1.1.1.1.1.0;
            second = n.1.1.1.1.1.1;
            month_in = d.0;
            day_in = d.1.0;
            hour_in = d.1.1.0;
            minute_in = d.1.1.1.0;
            second_in = d.1.1.1.1;
          },
      λ h.
          let m = h.marks in
          all.1 (
            (m.0, (m.1, (m.2, (m.3, (m.4, (m.5, m.6)))))),
            (
              (h.century, (h.years, (h.month, (h.day, (h.hour, (h.minute, h.second)))))),
              (h.month_in, (h.day_in, (h.hour_in, (h.minute_in, h.second_in)))),
            ),
          ),
    )

-- two digits are the number that is read at them
number_read : (text : List ℕ) (i j : ℕ) → AreDigits text i j
    → HasNumber text i j (number_at text i j)
number_read text i j h = (omega (arith, h.0, h.1), omega (arith, h.0, h.1), omega (arith, h.0, h.1))

date_at : (text : List ℕ) → IsMomentText text → Date
date_at text h =
    let c = number_read text 0 1 h.century in
    let y = number_read text 2 3 h.years in
    record {
      year = pos (year_at text);
      month = number_at text 5 6;
      day = number_at text 8 9;
      year_in = (omega (arith, ints), omega (arith, ints, c, y));
      month_in = h.month_in;
      day_in = h.day_in;
    }

-- the number of seconds that the numbers at their places come to
abbrev seconds_at : (text : List ℕ) → IsMomentText text → ℤ
seconds_at text h = (pos 86400 *ℤ epoch_day (date_at text h)) +ℤ pos
    (3600 * number_at text 11 12 + 60 * number_at text 14 15 + number_at text 17 18)

abbrev moment_where : (text : List ℕ) (b : Bool) → Decides b (IsMomentText text) → Option ℤ
moment_where text true d = Some (seconds_at text (d.0 refl))
moment_where text false d = None

-- decides `MomentOf`
pub moment_of : List ℕ → Option ℤ
moment_of text = moment_where text (has_marks text && (has_numbers text && is_date_and_time text))
    (moment_text-Decides text)

-- decides `IsMoment`
abbrev pub moment_part_of : Data → Option ℤ
moment_part_of d = option_and_then moment_of (as_str d)

is_moment : (text : List ℕ) (h : IsMomentText text) → MomentOf text (seconds_at text h)
unfolding date_at
is_moment text h = record {
  date = date_at text h;
  year = year_at text;
  hour = number_at text 11 12;
  minute = number_at text 14 15;
  second = number_at text 17 18;
  text_is = text_from_numbers text (number_at text 0 1) (number_at text 2 3) (number_at text 5 6)
      (number_at text 8 9) (number_at text 11 12) (number_at text 14 15) (number_at text 17 18)
      h.marks
      (number_read text 0 1 h.century) (number_read text 2 3 h.years) (number_read text 5 6 h.month)
      (number_read text 8 9 h.day) (number_read text 11 12 h.hour)
      (number_read text 14 15 h.minute) (number_read text 17 18 h.second);
  year_is = refl;
  hour_in = h.hour_in;
  minute_in = h.minute_in;
  second_in = h.second_in;
  number_is = refl;
}

days_at_most : (year : ℤ) (month : ℕ) → days_in_month year month ≤ 31
days_at_most year month = grind arith

-- the digits of a number below a hundred, and the number that they are
digits_back : (n : ℕ) → n < 100 → IsFromTo 48 57 (48 + n / 10) × IsFromTo 48 57 (48 + n % 10)
    × (10 * (48 + n / 10 - 48) + (48 + n % 10 - 48) ≡ n)
digits_back n h = ((omega arith, omega arith), (omega arith, omega arith), omega arith)

has_moment : (text : List ℕ) (moment : ℤ) → MomentOf text moment → IsMomentText text
has_moment text moment is = subst IsMomentText (sym is.text_is) whole
  where
    whole : IsMomentText (moment_text is.year is.date.month is.date.day is.hour is.minute is.second)
    whole =
        let below = (rw is.year_is at is.date.year_in).1 in
        let century = digits_back (is.year / 100) (omega (arith, ints, below)) in
        let years = digits_back (is.year % 100) (omega arith) in
        let month = digits_back is.date.month (omega (arith, is.date.month_in)) in
        let day = digits_back is.date.day
        (omega (arith, is.date.day_in, days_at_most is.date.year is.date.month)) in
        let hour = digits_back is.hour (omega (arith, is.hour_in)) in
        let minute = digits_back is.minute (omega (arith, is.minute_in)) in
        let second = digits_back is.second (omega (arith, is.second_in)) in
        let year : 100 * (10 * (48 + is.year / 100 / 10 - 48) + (48 + is.year / 100 % 10 - 48))
        + (10 * (48 + is.year % 100 / 10 - 48) + (48 + is.year % 100 % 10 - 48)) ≡ is.year =
        omega (arith, century.2, years.2) in
        record {
          marks = (refl, refl, refl, refl, refl, refl, refl);
          century = (century.0, century.1);
          years = (years.0, years.1);
          month = (month.0, month.1);
          day = (day.0, day.1);
          hour = (hour.0, hour.1);
          minute = (minute.0, minute.1);
          second = (second.0, second.1);
          month_in = rw month.2 is.date.month_in;
          day_in = rw (year, month.2, day.2) (rw is.year_is at is.date.day_in);
          hour_in = rw hour.2 is.hour_in;
          minute_in = rw minute.2 is.minute_in;
          second_in = rw second.2 is.second_in;
        }

pub moment_of-finds : (text : List ℕ) → Finds (MomentOf text) (moment_of text)
unfolding moment_of
moment_of-finds text = go (has_marks text && (has_numbers text && is_date_and_time text))
    (moment_text-Decides text)
  where
    go : (b : Bool) (d : Decides b (IsMomentText text))
        → Finds (MomentOf text) (moment_where text b d)
    go true d = is_moment text (d.0 refl)
    go false d = λ moment is. true≢false (sym (d.1 (has_moment text moment is)))

at_text : (found : Option (List ℕ))
    → Finds (λ moment. MatchOption found ⊥ (λ text. MomentOf text moment))
    (option_and_then moment_of found)
at_text None = λ moment h. h
at_text (Some text) = moment_of-finds text

pub moment_reads : Reads IsMoment moment_part_of
moment_reads d = at_text (as_str d)
