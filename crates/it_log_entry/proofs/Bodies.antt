-- What members encode, from what was tested of them.
use Rattle.std.proofs.Common.{◌≡◌, ◌∙◌, ◌↔◌, ap, ℕ, List, Option, Some, None, MatchOption, IsTrue, Bool}
use Rattle.std.proofs.Common.{Result, Ok, Err, IfOk, subst, true, false}
use Rattle.serde_json.specs.Data.{Data}
use Rattle.std.specs.Str.{IsUtf8}
use Rattle.it_base.specs.Base64Text.{IsBase64, base64_decoded}
use Rattle.it_base.specs.Document.{member_at}
use Rattle.it_base.specs.Parts.{IsPart}
use Rattle.it_log_entry.specs.CertificateText.{IsCertificateText, IsEncodedCertificate}
use Rattle.it_log_entry.specs.IntotoBody.{IsTwiceBase64}
use Rattle.it_log_entry.proofs.Same.{base64_same}

-- what is said of an answer, in other words
pub mapped : {A E : Type 0} (r : Result A E) (P Q : A → Type 0) → ((a : A) → P a → Q a)
    → IfOk r P → IfOk r Q
mapped (Ok a) P Q change h = change a h
mapped (Err e) P Q change h = tt

-- an answer that is no
pub refused : (P : Type 0) → ¬ P → IsTrue false ↔ P
refused P none = (λ is. let clash : false ≡ true = is in cc, λ p. absurd (none p))

-- a text in a member decides for what it encodes
twice_found : (found : Option Data) (text bytes : List ℕ) (b : Bool)
    → MatchOption found ⊥ (λ v. IsBase64 v text) → IsTrue b ↔ (base64_decoded text ≡ Some bytes)
    → IsTrue b ↔ MatchOption found ⊥ (λ v. IsTwiceBase64 v bytes)
twice_found None text bytes b h test = absurd h
twice_found (Some v) text bytes b h test = (
  λ passes. record { text = text; outer = h; inner = test.0 passes },
  λ is. test.1 (ap base64_decoded (base64_same v text is.text h is.outer) ∙ is.inner),
)

pub twice_is : (name : List ℕ) (d : Data) (text bytes : List ℕ) (b : Bool)
    → IsPart IsBase64 name d text → IsTrue b ↔ (base64_decoded text ≡ Some bytes)
    → IsTrue b ↔ IsPart IsTwiceBase64 name d bytes
twice_is name d text bytes b h test = twice_found (member_at name d) text bytes b h test

twice_missing : (found : Option Data) (bytes : List ℕ)
    → ((text : List ℕ) → ¬ MatchOption found ⊥ (λ v. IsBase64 v text))
    → ¬ MatchOption found ⊥ (λ v. IsTwiceBase64 v bytes)
twice_missing None bytes none h = h
twice_missing (Some v) bytes none h = none h.text h.outer

pub twice_none : (name : List ℕ) (d : Data) (bytes : List ℕ)
    → ((text : List ℕ) → ¬ IsPart IsBase64 name d text) → ¬ IsPart IsTwiceBase64 name d bytes
twice_none name d bytes none h = twice_missing (member_at name d) bytes none h

certificate_found : (found : Option Data) (text certificate : List ℕ) (b : Bool)
    → MatchOption found ⊥ (λ v. IsBase64 v text) → IsUtf8 text
    → IsTrue b ↔ IsCertificateText text certificate
    → IsTrue b ↔ MatchOption found ⊥ (λ v. IsEncodedCertificate v certificate)
certificate_found None text certificate b h utf8 test = absurd h
certificate_found (Some v) text certificate b h utf8 test = (
  λ passes. record { text = text; is_base64 = h; utf8 = utf8; is_text = test.0 passes },
  λ is. test.1 (subst (λ t. IsCertificateText t certificate)
      (base64_same v is.text text is.is_base64 h) is.is_text),
)

pub certificate_is : (name : List ℕ) (d : Data) (text certificate : List ℕ) (b : Bool)
    → IsPart IsBase64 name d text → IsUtf8 text → IsTrue b ↔ IsCertificateText text certificate
    → IsTrue b ↔ IsPart IsEncodedCertificate name d certificate
certificate_is name d text certificate b h utf8 test =
    certificate_found (member_at name d) text certificate b h utf8 test

certificate_missing : (found : Option Data) (certificate : List ℕ)
    → ((text : List ℕ) → IsUtf8 text → ¬ MatchOption found ⊥ (λ v. IsBase64 v text))
    → ¬ MatchOption found ⊥ (λ v. IsEncodedCertificate v certificate)
certificate_missing None certificate none h = h
certificate_missing (Some v) certificate none h = none h.text h.utf8 h.is_base64

pub certificate_none : (name : List ℕ) (d : Data) (certificate : List ℕ)
    → ((text : List ℕ) → IsUtf8 text → ¬ IsPart IsBase64 name d text)
    → ¬ IsPart IsEncodedCertificate name d certificate
certificate_none name d certificate none h =
    certificate_missing (member_at name d) certificate none h
