-- The parts of a moment, read at their places.
use Rattle.std.proofs.Common.{◌≡◌, ℕ, ◌+◌, ◌*◌, ◌/◌, ◌%◌, ◌<◌, ℤ, pos, List, length, get_or, sym}
use Rattle.std.proofs.Common.{ap, ◌∙◌, arith}
use Rattle.std.proofs.lemmas.Int.{ints}
use Rattle.std.proofs.lemmas.Slice.Eq.{text_from_reads}
use Rattle.jiff.specs.Words.{IsYmd, epoch_day}
use Rattle.it_docs.specs.Moment.{MomentOf, moment_text}
use Rattle.it_calendar.specs.Digits.{AreTwoDigits}

-- the bytes at these places are the two digits of the number
abbrev pub HasNumber : List ℕ → ℕ → ℕ → ℕ → Type 0
HasNumber text i j n = AreTwoDigits (get_or text i 0) (get_or text j 0) n

-- what stands between the numbers
abbrev pub HasMarks : List ℕ → Type 0
HasMarks text =
    (length text ≡ 20) × (get_or text 4 0 ≡ 45) × (get_or text 7 0 ≡ 45) × (get_or text 10 0 ≡ 84)
    × (get_or text 13 0 ≡ 58)
    × (get_or text 16 0 ≡ 58) × (get_or text 19 0 ≡ 90)

pub text_from_numbers : (text : List ℕ) (century years month day hour minute second : ℕ)
    → HasMarks text → HasNumber text 0 1 century → HasNumber text 2 3 years
    → HasNumber text 5 6 month → HasNumber text 8 9 day
    → HasNumber text 11 12 hour → HasNumber text 14 15 minute → HasNumber text 17 18 second
    → text ≡ moment_text (100 * century + years) month day hour minute second
text_from_numbers text century years month day hour minute second marks c y m d h n s =
    let front : (100 * century + years) / 100 ≡ century = omega arith in
    let back : (100 * century + years) % 100 ≡ years = omega arith in
    rw (front, back) (text_from_reads text _ marks.0 (
      c.1,
      (
        c.2,
        (
          y.1,
          (
            y.2,
            (
              marks.1,
              (
                m.1,
                (
                  m.2,
                  (
                    marks.2,
                    (
                      d.1,
                      (
                        d.2,
                        (
                          marks.3,
                          (
                            h.1,
                            (h.2, (marks.4, (n.1, (n.2, (marks.5, (s.1, (s.2, (marks.6, tt)))))))),
                          ),
                        ),
                      ),
                    ),
                  ),
                ),
              ),
            ),
          ),
        ),
      ),
    ))

-- a moment's year, month and day are those that the text has at their places
pub date_from_numbers : (text : List ℕ) (moment : ℤ) (is : MomentOf text moment)
    (century years month day : ℕ) → HasNumber text 0 1 century → HasNumber text 2 3 years
    → HasNumber text 5 6 month → HasNumber text 8 9 day
    → IsYmd (pos (100 * century + years)) (pos month) (pos day) is.date
date_from_numbers text moment is century years month day c y m d =
    let e0 = ap (λ (l : List ℕ). get_or l 0 0) is.text_is in
    let e1 = ap (λ (l : List ℕ). get_or l 1 0) is.text_is in
    let e2 = ap (λ (l : List ℕ). get_or l 2 0) is.text_is in
    let e3 = ap (λ (l : List ℕ). get_or l 3 0) is.text_is in
    let e5 = ap (λ (l : List ℕ). get_or l 5 0) is.text_is in
    let e6 = ap (λ (l : List ℕ). get_or l 6 0) is.text_is in
    let e8 = ap (λ (l : List ℕ). get_or l 8 0) is.text_is in
    let e9 = ap (λ (l : List ℕ). get_or l 9 0) is.text_is in
    let below = (rw is.year_is at is.date.year_in).1 in
    let year : is.year ≡ 100 * century + years = omega (arith, ints, below, c, y) in
    let month_is : is.date.month ≡ month = omega (arith, m) in
    let day_is : is.date.day ≡ day = omega (arith, d) in
    (is.year_is ∙ ap pos year, ap pos month_is, ap pos day_is)

-- a moment's time is the one that the text has at its places
pub time_from_numbers : (text : List ℕ) (moment : ℤ) → MomentOf text moment
    → (hour minute second : ℕ) → HasNumber text 11 12 hour → HasNumber text 14 15 minute
    → HasNumber text 17 18 second
    → (hour < 24) × (minute < 60) × (second < 60)
time_from_numbers text moment is hour minute second h n s =
    let e11 = ap (λ (l : List ℕ). get_or l 11 0) is.text_is in
    let e12 = ap (λ (l : List ℕ). get_or l 12 0) is.text_is in
    let e14 = ap (λ (l : List ℕ). get_or l 14 0) is.text_is in
    let e15 = ap (λ (l : List ℕ). get_or l 15 0) is.text_is in
    let e17 = ap (λ (l : List ℕ). get_or l 17 0) is.text_is in
    let e18 = ap (λ (l : List ℕ). get_or l 18 0) is.text_is in
    (omega arith, omega arith, omega arith)

-- a text is one moment at most
pub same_moment : (text : List ℕ) (x y : ℤ) → MomentOf text x → MomentOf text y → x ≡ y
same_moment text x y is js =
    let texts = sym is.text_is ∙ js.text_is in
    let e0 = ap (λ (l : List ℕ). get_or l 0 0) texts in
    let e1 = ap (λ (l : List ℕ). get_or l 1 0) texts in
    let e2 = ap (λ (l : List ℕ). get_or l 2 0) texts in
    let e3 = ap (λ (l : List ℕ). get_or l 3 0) texts in
    let e5 = ap (λ (l : List ℕ). get_or l 5 0) texts in
    let e6 = ap (λ (l : List ℕ). get_or l 6 0) texts in
    let e8 = ap (λ (l : List ℕ). get_or l 8 0) texts in
    let e9 = ap (λ (l : List ℕ). get_or l 9 0) texts in
    let e11 = ap (λ (l : List ℕ). get_or l 11 0) texts in
    let e12 = ap (λ (l : List ℕ). get_or l 12 0) texts in
    let e14 = ap (λ (l : List ℕ). get_or l 14 0) texts in
    let e15 = ap (λ (l : List ℕ). get_or l 15 0) texts in
    let e17 = ap (λ (l : List ℕ). get_or l 17 0) texts in
    let e18 = ap (λ (l : List ℕ). get_or l 18 0) texts in
    let year : is.year ≡ js.year = omega arith in
    let years : is.date.year ≡ js.date.year = is.year_is ∙ ap pos year ∙ sym js.year_is in
    let month : is.date.month ≡ js.date.month = omega arith in
    let day : is.date.day ≡ js.date.day = omega arith in
    let hour : is.hour ≡ js.hour = omega arith in
    let minute : is.minute ≡ js.minute = omega arith in
    let second : is.second ≡ js.second = omega arith in
    let days : epoch_day is.date ≡ epoch_day js.date = cc in
    is.number_is ∙ rw (days, hour, minute, second) (sym js.number_is)
