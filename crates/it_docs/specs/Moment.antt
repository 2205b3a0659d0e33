-- Moments in UTC: the date and time of RFC 3339, only in its 20-byte form and without leap seconds
-- (this profile's choice).
use Rattle.std.specs.Prelude.{◌≡◌, ℕ, ◌+◌, ◌*◌, ◌/◌, ◌%◌, ◌<◌, ℤ, pos, ◌+ℤ◌, ◌*ℤ◌, List, [], ◌∷◌}
use Rattle.std.specs.Prelude.{◌++◌, MatchOption}
use Rattle.serde_json.specs.Data.{Data}
use Rattle.serde_json.specs.Find.{as_str}
use Rattle.jiff.specs.Types.{Date}
use Rattle.jiff.specs.Words.{epoch_day}
use Rattle.it_calendar.specs.Digits.{two_digits_of}

-- `YYYY-MM-DDThh:mm:ssZ`
abbrev pub moment_text : ℕ → ℕ → ℕ → ℕ → ℕ → ℕ → List ℕ
moment_text year month day hour minute second =
    two_digits_of (year / 100) ++ two_digits_of (year % 100)
    ++ 45 ∷ two_digits_of month ++ 45 ∷ two_digits_of day
    ++ 84 ∷ two_digits_of hour ++ 58 ∷ two_digits_of minute ++ 58 ∷ two_digits_of second ++ 90 ∷ []

-- the text is this moment, as the number of seconds since 1970-01-01T00:00:00Z: a date of the
-- Gregorian calendar in the years 0000 to 9999, and a time of the day
pub record MomentOf (text : List ℕ) (moment : ℤ) : Type 0 where
  pub date : Date
  pub year : ℕ
  pub hour : ℕ
  pub minute : ℕ
  pub second : ℕ
  pub text_is : text ≡ moment_text year date.month date.day hour minute second
  pub year_is : date.year ≡ pos year
  pub hour_in : hour < 24
  pub minute_in : minute < 60
  pub second_in : second < 60
  pub number_is : moment ≡ (pos 86400 *ℤ epoch_day date) +ℤ pos (3600 * hour + 60 * minute + second)

-- the part is a text that is this moment
abbrev pub IsMoment : Data → ℤ → Type 0
IsMoment d moment = MatchOption (as_str d) ⊥ (λ text. MomentOf text moment)
