-- Signed notes (transparency-dev): a text in lines, an empty line, and lines with signatures.
use Rattle.std.specs.Prelude.{◌≡◌, ◌≢◌, ℕ, ◌<◌, ◌≤◌, ◌==◌, List, [], ◌∷◌, ◌++◌, Some, All, length}
use Rattle.std.specs.List.{AllZip, flat_map, slice_split}
use Rattle.base64.specs.Engines.{standard}
use Rattle.base64.specs.GeneralPurpose.{decoded_of}

-- the text is these lines, each ended by a line feed: what is between its line feeds, with nothing
-- after the last
abbrev pub AreLines : List ℕ → List (List ℕ) → Type 0
AreLines text lines = slice_split (λ byte. byte == 10) text ≡ lines ++ [] ∷ []

-- lines, each ended by a line feed
abbrev pub ended : List (List ℕ) → List ℕ
ended lines = flat_map (λ line. line ++ 10 ∷ []) lines

-- a dash and a space
abbrev pub signature_mark : List ℕ
signature_mark = 226 ∷ 128 ∷ 148 ∷ 32 ∷ []

-- a text is a name, which is not empty and has no space, a space, and the rest
pub record IsNamed (text name rest : List ℕ) : Type 0 where
  pub written : text ≡ name ++ 32 ∷ rest
  pub some : 0 < length name
  pub whole : All (λ byte. byte ≢ 32) name

-- a line with a signature of at least 5 bytes, the first 4 of which are a hint about the key
pub record IsSignatureLine (line signature : List ℕ) : Type 0 where
  pub name : List ℕ
  pub encoded : List ℕ
  pub after_mark : List ℕ
  pub written : line ≡ signature_mark ++ after_mark
  pub named : IsNamed after_mark name encoded
  pub encodes : decoded_of standard encoded ≡ Some signature
  pub long : 5 ≤ length signature

-- the lines of the text of a note, of which none is empty, and its signatures, 1 to 8 (this
-- profile's choice)
pub record NoteOf (note : List ℕ) (lines signatures : List (List ℕ)) : Type 0 where
  pub below : List (List ℕ)
  pub written : AreLines note (lines ++ [] ∷ below)
  pub full : All (λ line. 0 < length line) lines
  pub signed : AllZip IsSignatureLine below signatures
  pub some : 0 < length signatures
  pub few : length signatures ≤ 8
