-- The times in a certificate (RFC 5280, section 4.1.2.5): a date of the Gregorian calendar and a
-- time of the day, in UTC and without leap seconds, as the number of seconds since
-- 1970-01-01T00:00:00Z.
use Rattle.std.specs.Prelude.{◌≡◌, ℕ, ◌+◌, ◌*◌, ◌/◌, ◌%◌, ◌<◌, ◌≤◌, ◌⊎◌, ℤ, pos, ◌+ℤ◌, ◌*ℤ◌}
use Rattle.std.specs.Prelude.{List, [], ◌∷◌, ◌++◌, nat_lt, if◌then◌else◌}
use Rattle.jiff.specs.Types.{Date}
use Rattle.jiff.specs.Words.{epoch_day}
use Rattle.it_calendar.specs.Digits.{two_digits_of}

-- `MMDDhhmmssZ`
abbrev pub after_year_text : ℕ → ℕ → ℕ → ℕ → ℕ → List ℕ
after_year_text month day hour minute second = two_digits_of month ++ two_digits_of day
    ++ two_digits_of hour ++ two_digits_of minute ++ two_digits_of second ++ 90 ∷ []

-- what is written after the year, and the moment
pub record IsAfterYear (year : ℕ) (text : List ℕ) (moment : ℤ) : Type 0 where
  pub date : Date
  pub hour : ℕ
  pub minute : ℕ
  pub second : ℕ
  pub year_is : date.year ≡ pos year
  pub text_is : text ≡ after_year_text date.month date.day hour minute second
  pub hour_in : hour < 24
  pub minute_in : minute < 60
  pub second_in : second < 60
  pub number_is : moment ≡ (pos 86400 *ℤ epoch_day date) +ℤ pos (3600 * hour + 60 * minute + second)

-- the year from 1950 to 2049 that ends in two digits
abbrev pub short_year : ℕ → ℕ
short_year digits = (if nat_lt digits 50 then 2000 + digits else 1900 + digits)

-- `YYMMDDhhmmssZ`
pub record ShortTime (content : List ℕ) (moment : ℤ) : Type 0 where
  pub digits : ℕ
  pub text : List ℕ
  pub below : digits < 100
  pub content_is : content ≡ two_digits_of digits ++ text
  pub text_is : IsAfterYear (short_year digits) text moment

-- `YYYYMMDDhhmmssZ`, for the years from 2050 on
pub record LongTime (content : List ℕ) (moment : ℤ) : Type 0 where
  pub year : ℕ
  pub text : List ℕ
  pub since : 2050 ≤ year
  pub until : year < 10000
  pub content_is : content ≡ two_digits_of (year / 100) ++ two_digits_of (year % 100) ++ text
  pub text_is : IsAfterYear year text moment

-- a UTCTime or a GeneralizedTime, by its tag and its content
abbrev pub TimeOf : ℕ → List ℕ → ℤ → Type 0
TimeOf tag content moment =
    ((tag ≡ 23) × ShortTime content moment) ⊎ ((tag ≡ 24) × LongTime content moment)
