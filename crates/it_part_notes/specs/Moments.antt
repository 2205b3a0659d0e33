-- What a note says about a text that is no moment (words of this project). A moment is
-- `YYYY-MM-DDThh:mm:ssZ` (RFC 3339, in this profile's form).
use Rattle.std.specs.Prelude.{◌≡◌, ◌⊎◌, ℕ, ℤ, List, ◌++◌, Option, Some, None, All, IfSome}
use Rattle.std.specs.Prelude.{IsTrue, MatchOption, codes, length}
use Rattle.std.specs.Char.{is_ascii_digit}
use Rattle.std.specs.List.{slice_get}
use Rattle.std.specs.Str.{byte}
use Rattle.it_docs.specs.Moment.{MomentOf}
use Rattle.it_part_notes.specs.SumLine.{told_form}
use Rattle.it_part_notes.specs.declared.moment_note.Mistake.{Mistake}
use Rattle.it_part_notes.specs.declared.moment_note.Mistake.TheVariants as mistakes
use Rattle.it_part_notes.specs.declared.moment_note.MomentNote.{MomentNote}

-- what a text has where a moment has something else: a date is `YYYY-MM-DD`, `T` is to stand at
-- place 10, and `Z` at place 19, where an offset has its sign and a fraction its point
abbrev pub IsMistake : List ℕ → Mistake → Type 0
IsMistake text mistakes.Date = (length text ≡ 10) × (slice_get text 4 ≡ Some (byte "-"))
    × (slice_get text 7 ≡ Some (byte "-"))
IsMistake text mistakes.Space = slice_get text 10 ≡ Some (byte " ")
IsMistake text mistakes.Offset =
    (slice_get text 19 ≡ Some (byte "+")) ⊎ (slice_get text 19 ≡ Some (byte "-"))
IsMistake text mistakes.Fraction = slice_get text 19 ≡ Some (byte ".")
IsMistake text mistakes.Digits = All (λ c. IsTrue (is_ascii_digit c)) text
IsMistake text mistakes.Word = MatchOption (slice_get text 0) ⊥ (λ c. ¬ IsTrue (is_ascii_digit c))

-- the text is no moment, and has this mistake where one is named
pub record TellsMoment (text : List ℕ) (note : MomentNote) : Type 0 where
  pub text_is : note.text ≡ text
  pub no_moment : (moment : ℤ) → ¬ MomentOf text moment
  pub mistake : IfSome note.mistake (IsMistake text)

-- ---- the line
abbrev pub mistake_form : Option Mistake → List ℕ
mistake_form None = codes " is no moment such as 2030-01-01T00:00:00Z"
mistake_form (Some mistakes.Date) =
    codes " is no moment such as 2030-01-01T00:00:00Z: it has no time"
mistake_form (Some mistakes.Space) =
    codes " is no moment such as 2030-01-01T00:00:00Z: it has a space in place of T"
mistake_form (Some mistakes.Offset) =
    codes " is no moment such as 2030-01-01T00:00:00Z: it has an offset in place of Z"
mistake_form (Some mistakes.Fraction) =
    codes " is no moment such as 2030-01-01T00:00:00Z: it has a fraction in place of Z"
mistake_form (Some mistakes.Digits) =
    codes " is no moment such as 2030-01-01T00:00:00Z: it is a number"
mistake_form (Some mistakes.Word) =
    codes " is no moment such as 2030-01-01T00:00:00Z: it does not begin with a digit"

-- the line of a note
abbrev pub moment_line : MomentNote → List ℕ
moment_line note =
    told_form (codes "moment: ") note.text ++ mistake_form note.mistake ++ codes "\n"
