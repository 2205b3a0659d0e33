-- Lines as slices of a text.
use Rattle.std.specs.Prelude.{◌≡◌, ℕ, ◌<◌, ◌≤◌, List, [], ◌∷◌, ◌++◌, Some, All, Any, IsTrue, length}
use Rattle.std.specs.Prelude.{map}
use Rattle.std.specs.Borrow.{Bor}
use Rattle.std.specs.List.{AllZip, concat}
use Rattle.base64.specs.Engines.{standard}
use Rattle.base64.specs.GeneralPurpose.{decoded_of}
use Rattle.it_pem.specs.PublicKeyText.{is_body_line}
use Rattle.it_log_entry.specs.CertificateText.{begin_mark, end_mark}
use Rattle.it_log_entry.specs.Checkpoint.{IsNoteSignature}
use Rattle.it_log_entry.specs.Note.{IsSignatureLine, ended}
use Rattle.it_p256.specs.Key.{Key}

-- what the slices show
abbrev pub texts_of : List (Bor (List ℕ)) → List (List ℕ)
texts_of lines = map (λ line. line.now) lines

-- the lines between the marks
abbrev pub IsBetweenMarks : List (List ℕ) → List (List ℕ) → Type 0
IsBetweenMarks lines body = lines ≡ begin_mark ∷ (body ++ end_mark ∷ [])

-- the lines of a PEM text of a certificate
pub record IsCertificateOf (lines : List (List ℕ)) (certificate : List ℕ) : Type 0 where
  pub body : List (List ℕ)
  pub lines_are : lines ≡ begin_mark ∷ body ++ end_mark ∷ []
  pub body_lines : All (λ line. IsTrue (is_body_line line)) body
  pub encoded : decoded_of standard (concat body) ≡ Some certificate

-- the lines before the first empty one, and those after it
pub record IsCutAtEmpty (lines : List (List ℕ)) (parts : List (List ℕ) × List (List ℕ))
    : Type 0 where
  pub written : lines ≡ parts.0 ++ [] ∷ parts.1
  pub full : All (λ line. 0 < length line) parts.0

-- the signatures of signature lines, 1 to 8
pub record AreSignatures (lines signatures : List (List ℕ)) : Type 0 where
  pub signed : AllZip IsSignatureLine lines signatures
  pub some : 0 < length signatures
  pub few : length signatures ≤ 8

-- one of the signatures of a note is the key's
abbrev pub IsSignedBy : Key → List (List ℕ) → List (List ℕ) → Type 0
IsSignedBy key lines signatures = Any (IsNoteSignature key (ended lines)) signatures
