-- Public keys in files: PEM texts (RFC 7468, section 13) of a SubjectPublicKeyInfo, and the key
-- objects that are made of them.
use Rattle.std.specs.Prelude.{◌≡◌, ◌≢◌, ◌⊎◌, ◌==◌, ◌||◌, ℕ, List, Some, None, Bool, not, IsTrue}
use Rattle.std.specs.Prelude.{IsFalse, IsUtf8, codes, length, if◌then◌else◌}
use Rattle.std.specs.Prelude.{[], nat_eq}
use Rattle.std.specs.List.{filter, starts_with}
use Rattle.std.specs.Str.{bytes_eq, trim_end}
use Rattle.std.specs.Str.Iter.{HasSubslice}
use Rattle.hex.specs.Hex.{encode_lower}
use Rattle.it_dsse.specs.declared.key_object.KeyObject.{KeyObject}
use Rattle.it_ed25519.specs.PublicKey.{IsPublicKey}
use Rattle.it_pem.specs.Label.{HasLabel}
use Rattle.it_pem.specs.PublicKeyText.{info_in}
use Rattle.it_public_keys.specs.declared.key.Key.{Key}
use Rattle.it_public_keys.specs.declared.key.Key.TheVariants.{Ed25519, P256, P384, Rsa}
use Rattle.it_key_commands.specs.KeyInfo.{IsNoEd25519Info, IsNoKeyInfo, ed25519_info}
use Rattle.it_key_commands.specs.KeyInfo.{key_info, names_curves, names_p256, names_p384}
use Rattle.it_key_commands.specs.KeyInfo.{names_p521, names_rsa, names_secp256k1}
use Rattle.it_key_commands.specs.Signers.{Describes}
use Rattle.it_key_commands.specs.declared.fault.FileFault.{FileFault}
use Rattle.it_key_commands.specs.declared.fault.FileFault.TheVariants.{
  NotPem,
  Other,
  OtherKind,
  BadPoint,
  BadCurveKey,
  BadRsaKey,
}
use Rattle.it_key_commands.specs.declared.fault.Curve.{Curve}
use Rattle.it_key_commands.specs.declared.fault.Curve.TheVariants as curves
use Rattle.it_key_commands.specs.declared.fault.OtherFile.{OtherFile}
use Rattle.it_key_commands.specs.declared.fault.OtherFile.TheVariants as files
use Rattle.it_key_commands.specs.declared.fault.OtherText.{OtherText}
use Rattle.it_key_commands.specs.declared.fault.OtherText.TheVariants.{
  PrivateKey,
  RsaPublicKey,
  Certificate,
  Unknown,
}

-- a file without its carriage returns
abbrev pub without_returns : List ℕ → List ℕ
without_returns file = filter (λ byte. not (byte == 13)) file

-- the text of a file: the same, without white space at the end
abbrev pub text_of : List ℕ → List ℕ
text_of file = trim_end (without_returns file)

-- the key object of a key with this text, in the form of in-toto's own tools: an Ed25519 key in
-- hexadecimal digits, and any other key as its text
abbrev pub key_object : List ℕ → Key → KeyObject
key_object text (Ed25519 key) = record {
  keytype = codes "ed25519";
  scheme = codes "ed25519";
  public = encode_lower key;
  identity = [];
  issuer = [];
}
key_object text (P256 key) = record {
  keytype = codes "ecdsa";
  scheme = codes "ecdsa-sha2-nistp256";
  public = text;
  identity = [];
  issuer = [];
}
key_object text (P384 key) = record {
  keytype = codes "ecdsa";
  scheme = codes "ecdsa-sha2-nistp384";
  public = text;
  identity = [];
  issuer = [];
}
key_object text (Rsa key) = record {
  keytype = codes "rsa";
  scheme = codes "rsassa-pss-sha256";
  public = text;
  identity = [];
  issuer = [];
}

-- the file is a public key, and the object is its key object, which describes it
pub record IsKeyFile (file : List ℕ) (object : KeyObject) : Type 0 where
  pub key : Key
  pub info_is : info_in (text_of file) ≡ Some (key_info key)
  pub object_is : object ≡ key_object (text_of file) key
  pub describes : Describes object key

-- the label of public keys (RFC 7468, section 13)
abbrev pub public_label : List ℕ
public_label = codes "PUBLIC KEY"

-- the labels of private keys: of RFC 7468, sections 10 and 11, and of OpenSSL and OpenSSH
abbrev pub is_private : List ℕ → Bool
is_private label = bytes_eq label (codes "PRIVATE KEY")
    || bytes_eq label (codes "ENCRYPTED PRIVATE KEY")
    || bytes_eq label (codes "RSA PRIVATE KEY")
    || bytes_eq label (codes "EC PRIVATE KEY")
    || bytes_eq label (codes "OPENSSH PRIVATE KEY")

-- what a PEM text of another label is
abbrev pub other_text : List ℕ → OtherText
other_text label =
    if is_private label then PrivateKey
    else (if bytes_eq label (codes "RSA PUBLIC KEY") then RsaPublicKey
    else (if bytes_eq label (codes "CERTIFICATE") then Certificate else Unknown))

-- the text has no info between the marks of a public key, and no other label
pub record IsNoPem (text : List ℕ) : Type 0 where
  pub no_info : info_in text ≡ None
  pub no_other : HasLabel text public_label ⊎ ((label : List ℕ) → ¬ HasLabel text label)

-- a line of the text after the first begins as the first line of a public key in PEM does
abbrev pub BeginsLater : List ℕ → Type 0
BeginsLater text = HasSubslice text (codes "\n-----BEGIN PUBLIC KEY-----")

-- what the text is then: empty; a public key of OpenSSH, which begins with the name of its kind
-- (RFC 4253, section 6.6; RFC 5656, section 3.1); the beginning of a JSON object; the beginning of
-- a public key in PEM, and after its first line that of another one; or another text before one
abbrev pub IsOtherFile : List ℕ → OtherFile → Type 0
IsOtherFile text files.Empty = text ≡ []
IsOtherFile text files.OpenSsh = IsTrue (starts_with nat_eq text (codes "ssh-"))
    ⊎ IsTrue (starts_with nat_eq text (codes "ecdsa-sha2-"))
IsOtherFile text files.Json = IsTrue (starts_with nat_eq text (codes "{"))
IsOtherFile text files.Several = HasLabel text public_label × BeginsLater text
IsOtherFile text files.TextBefore = ((label : List ℕ) → ¬ HasLabel text label) × BeginsLater text
IsOtherFile text files.Other = Unit {0}

-- the text has another label
pub record IsOtherText (text : List ℕ) (other : OtherText) : Type 0 where
  pub label : List ℕ
  pub labelled : HasLabel text label
  pub not_public : label ≢ public_label
  pub other_is : other ≡ other_text label

-- the info has the form of an Ed25519 key, of 32 bytes that are not a key
pub record IsBadPoint (info : List ℕ) : Type 0 where
  pub bytes : List ℕ
  pub long : length bytes ≡ 32
  pub info_is : info ≡ ed25519_info bytes
  pub bad : ¬ IsPublicKey bytes

-- the info is that of no key, does not have the form of an Ed25519 key, and names neither RSA nor
-- elliptic curves
pub record IsOfOtherKind (info : List ℕ) : Type 0 where
  pub no_key : IsNoKeyInfo info
  pub no_ed25519 : IsNoEd25519Info info
  pub no_rsa : IsFalse (names_rsa info)
  pub no_curves : IsFalse (names_curves info)

-- the info names this curve
abbrev pub IsOfCurve : List ℕ → Curve → Type 0
IsOfCurve info curves.P256 = IsTrue (names_p256 info)
IsOfCurve info curves.P384 = IsTrue (names_p384 info)
IsOfCurve info curves.P521 = IsTrue (names_p521 info)
IsOfCurve info curves.Secp256k1 = IsTrue (names_secp256k1 info)
IsOfCurve info curves.Other = IsFalse (names_p256 info) × IsFalse (names_p384 info)

-- the info names elliptic curves, but is not that of a key: its curve is neither P-256 nor P-384,
-- or its point is not on the curve or not written uncompressed
pub record IsBadCurveKey (info : List ℕ) (curve : Curve) : Type 0 where
  pub no_key : IsNoKeyInfo info
  pub curves : IsTrue (names_curves info)
  pub of_curve : IsOfCurve info curve

-- the info names RSA, but is not that of a key: its modulus or exponent is not accepted
pub record IsBadRsaKey (info : List ℕ) : Type 0 where
  pub no_key : IsNoKeyInfo info
  pub rsa : IsTrue (names_rsa info)

-- a text has an info of which P holds
abbrev pub HasInfo : List ℕ → (List ℕ → Type 0) → Type 0
HasInfo text P = (info : List ℕ) × (info_in text ≡ Some info) × P info

-- why lines are not a public key
abbrev pub IsLinesFault : List ℕ → FileFault → Type 0
IsLinesFault lines (NotPem file) =
    (¬ IsUtf8 lines ⊎ IsNoPem (trim_end lines)) × IsOtherFile (trim_end lines) file
IsLinesFault lines (Other other) = IsOtherText (trim_end lines) other
IsLinesFault lines OtherKind = HasInfo (trim_end lines) IsOfOtherKind
IsLinesFault lines BadPoint = HasInfo (trim_end lines) IsBadPoint
IsLinesFault lines (BadCurveKey curve) =
    HasInfo (trim_end lines) (λ info. IsBadCurveKey info curve)
IsLinesFault lines BadRsaKey = HasInfo (trim_end lines) IsBadRsaKey

-- why a file is not a public key: its lines are not
abbrev pub IsFileFault : List ℕ → FileFault → Type 0
IsFileFault file fault = IsLinesFault (without_returns file) fault
