-- Times (RFC 3339, in the JSON form of protobuf's `Timestamp`): in UTC and without leap seconds,
-- with a fraction of up to 9 digits or none.
use Rattle.std.specs.Prelude.{◌≡◌, ℕ, ◌-◌, ◌<◌, ◌≤◌, ℤ, pos, ◌+ℤ◌, ◌*ℤ◌, List, [], ◌∷◌, ◌++◌}
use Rattle.std.specs.Prelude.{length, replicate, MatchOption, codes}
use Rattle.std.specs.Str.Parse.{AllDigits, digits_value}
use Rattle.serde_json.specs.Data.{Data}
use Rattle.serde_json.specs.Find.{as_str}
use Rattle.it_docs.specs.Moment.{MomentOf}

-- the digits, and zeros behind them up to nine
abbrev pub nine_digits : List ℕ → List ℕ
nine_digits digits = digits ++ replicate (9 - length digits) 48

-- 1 to 9 digits, which a number of nanoseconds begins with; zeros follow
pub record AreFractionDigits (digits : List ℕ) (nanoseconds : ℕ) : Type 0 where
  pub are_digits : AllDigits 10 digits
  pub some : 0 < length digits
  pub few : length digits ≤ 9
  pub number_is : nanoseconds ≡ digits_value 10 (nine_digits digits)

-- nothing, or a full stop and such digits
abbrev pub IsFraction : List ℕ → ℕ → Type 0
IsFraction [] nanoseconds = nanoseconds ≡ 0
IsFraction (mark ∷ digits) nanoseconds = (mark ≡ 46) × AreFractionDigits digits nanoseconds

-- the text is this time, as the number of nanoseconds since 1970-01-01T00:00:00Z
pub record TimeOf (text : List ℕ) (time : ℤ) : Type 0 where
  pub to_second : List ℕ
  pub fraction : List ℕ
  pub moment : ℤ
  pub nanoseconds : ℕ
  pub written : text ≡ to_second ++ (fraction ++ codes "Z")
  pub moment_is : MomentOf (to_second ++ codes "Z") moment
  pub fraction_is : IsFraction fraction nanoseconds
  pub time_is : time ≡ (pos 1_000_000_000 *ℤ moment) +ℤ pos nanoseconds

-- the part is a text that is this time
abbrev pub IsTime : Data → ℤ → Type 0
IsTime d time = MatchOption (as_str d) ⊥ (λ text. TimeOf text time)
