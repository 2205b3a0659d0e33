-- Certificates as PEM texts (RFC 7468, sections 2 and 5).
use Rattle.std.specs.Prelude.{◌≡◌, ℕ, List, [], ◌∷◌, ◌++◌, Some, All, IsTrue, IsUtf8, codes}
use Rattle.std.specs.List.{concat}
use Rattle.std.specs.Str.Lines.{lines}
use Rattle.base64.specs.Engines.{standard}
use Rattle.base64.specs.GeneralPurpose.{decoded_of}
use Rattle.serde_json.specs.Data.{Data}
use Rattle.it_base.specs.Base64Text.{IsBase64}
use Rattle.it_pem.specs.PublicKeyText.{is_body_line}

-- the first line and the last
abbrev pub begin_mark : List ℕ
begin_mark = codes "-----BEGIN CERTIFICATE-----"

abbrev pub end_mark : List ℕ
end_mark = codes "-----END CERTIFICATE-----"

-- a PEM text of these bytes: the lines between the marks, joined, are base64 (RFC 4648, section 4)
pub record IsCertificateText (text certificate : List ℕ) : Type 0 where
  pub body : List (List ℕ)
  pub lines_are : lines text ≡ begin_mark ∷ body ++ end_mark ∷ []
  pub body_lines : All (λ line. IsTrue (is_body_line line)) body
  pub encoded : decoded_of standard (concat body) ≡ Some certificate

-- the part is base64 of such a text
pub record IsEncodedCertificate (d : Data) (certificate : List ℕ) : Type 0 where
  pub text : List ℕ
  pub is_base64 : IsBase64 d text
  pub utf8 : IsUtf8 text
  pub is_text : IsCertificateText text certificate
