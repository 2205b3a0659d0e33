-- What a note says about a bad line of a digest list (this project's words). Its lines are those of
-- `sha256sum` or `sha512sum` of the GNU core utilities, in UTF-8, with no path twice.
use Rattle.std.specs.Prelude.{◌≡◌, ◌≢◌, ◌⊎◌, ◌<◌, ℕ, suc, List, [], ◌∷◌, ◌++◌, length, codes}
use Rattle.std.specs.Prelude.{Some, IsTrue, MatchOption, decimal, nat_eq, not}
use Rattle.std.specs.Char.{is_ascii_hexdigit}
use Rattle.std.specs.List.{ends_with, position, slice_get, starts_with}
use Rattle.std.specs.Str.{IsUtf8}
use Rattle.it_digest.specs.DigestSet.{Algorithm}
use Rattle.it_digest.specs.Sums.{IsCut, IsSum, algorithm_of, digit_count, lines_of}
use Rattle.it_digest.specs.declared.compare.DigestSet.{DigestSet}
use Rattle.it_digest.specs.declared.sums.ListAlgorithm.{ListAlgorithm}
use Rattle.it_digest.specs.declared.sums.ListAlgorithm.TheVariants.{Sha256, Sha512}
use Rattle.it_report.specs.Name.{cut_form}
use Rattle.it_part_notes.specs.declared.sum_line_note.LineFault.{LineFault}
use Rattle.it_part_notes.specs.declared.sum_line_note.LineFault.TheVariants.{ByteOrderMark, Digits}
use Rattle.it_part_notes.specs.declared.sum_line_note.LineFault.TheVariants.{NoDigits, NoMark}
use Rattle.it_part_notes.specs.declared.sum_line_note.LineFault.TheVariants.{NoPath, NotUtf8}
use Rattle.it_part_notes.specs.declared.sum_line_note.LineFault.TheVariants.{Repeated}
use Rattle.it_part_notes.specs.declared.sum_line_note.SumLineNote.{SumLineNote}

-- ---- the lines
-- the line of this number, counted from 1
pub record IsLine (bytes : List ℕ) (number : ℕ) (line : List ℕ) : Type 0 where
  pub place : ℕ
  pub stands : slice_get (lines_of bytes) place ≡ Some line
  pub number_is : number ≡ suc place

-- the first line ends with a carriage return, which belongs to its path
abbrev pub FirstLineReturns : List ℕ → Type 0
FirstLineReturns bytes =
    (line : List ℕ) × IsLine bytes 1 line × IsTrue (ends_with nat_eq line (13 ∷ []))

-- a line is the hexadecimal digits of a digest and then this text
abbrev pub FollowsDigits : Algorithm → List ℕ → List ℕ → Type 0
FollowsDigits algorithm line text = (digests : DigestSet) × IsCut algorithm line (digests, text)

-- a line begins with this many hexadecimal digits, and no more
abbrev pub HasDigits : List ℕ → ℕ → Type 0
HasDigits line many =
    MatchOption (position (λ byte. not (is_ascii_hexdigit byte)) line) (many ≡ length line)
    (λ place. many ≡ place)

-- a text is two spaces, or a space and a star, and then this path
abbrev pub IsMarked : List ℕ → List ℕ → Type 0
IsMarked text path = (text ≡ codes "  " ++ path) ⊎ (text ≡ codes " *" ++ path)

-- a line gives some digests to this path
abbrev pub GivesPath : Algorithm → List ℕ → List ℕ → Type 0
GivesPath algorithm line path = (digests : DigestSet) × IsSum algorithm line (path, digests)

-- the line with this number does
abbrev pub LineGives : Algorithm → List ℕ → ℕ → List ℕ → Type 0
LineGives algorithm bytes number path =
    (line : List ℕ) × IsLine bytes number line × GivesPath algorithm line path

-- ---- what is wrong with a line
-- what follows the digits of a line has no mark
abbrev pub HasNoMark : Algorithm → List ℕ → Type 0
HasNoMark algorithm line =
    (text : List ℕ) × FollowsDigits algorithm line text
    × ((path : List ℕ) → ¬ IsMarked text path)

-- what follows the digits of a line is a mark and then this path
abbrev pub HasPath : Algorithm → List ℕ → List ℕ → Type 0
HasPath algorithm line path =
    (text : List ℕ) × FollowsDigits algorithm line text × IsMarked text path

-- a line gives this path, and so does the earlier line of this number
pub record IsRepeated (algorithm : Algorithm) (bytes : List ℕ) (number : ℕ)
    (line path : List ℕ) (earlier : ℕ) : Type 0 where
  pub gives : GivesPath algorithm line path
  pub is_earlier : earlier < number
  pub earlier_gives : LineGives algorithm bytes earlier path

-- this is wrong with the line with this number
abbrev pub IsFault : Algorithm → List ℕ → ℕ → List ℕ → LineFault → Type 0
IsFault algorithm bytes number line ByteOrderMark =
    IsTrue (starts_with nat_eq line (0xef ∷ 0xbb ∷ 0xbf ∷ []))
IsFault algorithm bytes number line (Digits many) =
    HasDigits line many × (many ≢ digit_count algorithm)
IsFault algorithm bytes number line NoDigits =
    (text : List ℕ) → ¬ FollowsDigits algorithm line text
IsFault algorithm bytes number line NoMark = HasNoMark algorithm line
IsFault algorithm bytes number line NoPath = HasPath algorithm line []
IsFault algorithm bytes number line NotUtf8 =
    (path : List ℕ) × HasPath algorithm line path × ¬ IsUtf8 path
IsFault algorithm bytes number line (Repeated path earlier) =
    IsRepeated algorithm bytes number line path earlier

-- what a note says is true: this is wrong with the line with its number
pub record TellsSumLine (bytes : List ℕ) (note : SumLineNote) : Type 0 where
  pub line : List ℕ
  pub is_line : IsLine bytes note.number line
  pub is_fault : IsFault (algorithm_of note.algorithm) bytes note.number line note.fault

-- ---- the lines of notes
-- a name after a text, in the form of a report
unfoldable pub told_form : List ℕ → List ℕ → List ℕ
told_form before name = before ++ cut_form name

-- a number between two texts
unfoldable pub numbered_form : List ℕ → ℕ → List ℕ → List ℕ
numbered_form before number after = before ++ decimal number ++ after

abbrev pub repeated_form : List ℕ → ℕ → List ℕ
repeated_form path earlier =
    told_form (codes " has the path ") path
    ++ numbered_form (codes ", which line ") earlier (codes " has too")

-- how many digits a line of a list has, in words
abbrev pub digits_form : ListAlgorithm → List ℕ
digits_form Sha256 = codes "64 hexadecimal digits"
digits_form Sha512 = codes "128 hexadecimal digits"

abbrev pub fault_form : ListAlgorithm → LineFault → List ℕ
fault_form algorithm ByteOrderMark = codes " begins with a byte order mark"
fault_form algorithm (Digits many) =
    numbered_form (codes " begins with ") many (codes " in place of ") ++ digits_form algorithm
fault_form algorithm NoDigits = codes " does not begin with " ++ digits_form algorithm
fault_form algorithm NoMark =
    codes " has neither two spaces nor a space and a star after the digits"
fault_form algorithm NoPath = codes " has no path"
fault_form algorithm NotUtf8 = codes " has a path that is not UTF-8"
fault_form algorithm (Repeated path earlier) = repeated_form path earlier

-- which list it is
abbrev pub list_form : ListAlgorithm → List ℕ
list_form Sha256 = codes "digest list: line "
list_form Sha512 = codes "digest list by SHA-512: line "

-- the line of a note
abbrev pub sum_line : SumLineNote → List ℕ
sum_line note =
    numbered_form (list_form note.algorithm) note.number [] ++ fault_form note.algorithm note.fault
    ++ codes "\n"
