-- What a signature is that was made elsewhere and is not valid for its key, as far as it is tried
-- (what is tried is this profile's choice).
use Rattle.std.specs.Prelude.{◌≡◌, ◌≢◌, ◌⊎◌, ◌==◌, ◌+◌, ℕ, List, [], ◌∷◌, ◌++◌, Some, Ok, codes}
use Rattle.std.specs.Prelude.{drop, if◌then◌else◌, length, nat_lt, take}
use Rattle.std.specs.List.{filter}
use Rattle.base64.specs.Engines.{standard}
use Rattle.base64.specs.GeneralPurpose.{decoded_of}
use Rattle.hex.specs.Hex.{decode_of}
use Rattle.it_dsse.specs.Pae.{pae_of}
use Rattle.it_dsse.specs.declared.key_object.KeyObject.{KeyObject}
use Rattle.it_public_keys.specs.declared.key.Key.TheVariants.{Rsa}
use Rattle.it_rsa.specs.Key.{Key as RsaKey}
use Rattle.it_rsa_forms.specs.Pkcs1.{IsPkcs1Signature}
use Rattle.it_rsa_forms.specs.Pss.{IsPssOfSalt}
use Rattle.it_key_commands.specs.Signers.{Describes, IsValidFor}
use Rattle.it_key_commands.specs.declared.fault.SignatureFlaw.{SignatureFlaw}
use Rattle.it_key_commands.specs.declared.fault.SignatureFlaw.TheVariants.{
  Base64,
  Hexadecimal,
  TwoNumbers,
  OfBody,
  OfType,
  Pkcs1,
  OtherSalt,
  OtherRsa,
  Other,
}

-- a text without its white space: its bytes above 32
abbrev pub without_space : List ℕ → List ℕ
without_space text = filter (λ byte. nat_lt 32 byte) text

-- a number in bytes, without the zeros that it begins with
abbrev pub shortest : List ℕ → List ℕ
shortest [] = []
shortest (byte ∷ rest) = if byte == 0 then shortest rest else byte ∷ rest

-- what stands before it in an INTEGER: a zero where it has no byte, or the first is above 127
abbrev pub padding_of : List ℕ → List ℕ
padding_of [] = 0 ∷ []
padding_of (byte ∷ rest) = if nat_lt byte 128 then [] else 0 ∷ []

-- a number in bytes as an INTEGER in DER: the tag 2, a length and as few bytes as hold it (X.690,
-- sections 8.3 and 10.1)
unfoldable pub integer_form : List ℕ → List ℕ
integer_form number =
    let digits = padding_of (shortest number) ++ shortest number in 2 ∷ length digits ∷ digits

-- two numbers in bytes as an ECDSA-Sig-Value in DER: the tag 48, a length and both (RFC 3279,
-- section 2.2.3)
unfoldable pub signature_form : (r s : List ℕ) → List ℕ
signature_form r s =
    let both = integer_form r ++ integer_form s in 48 ∷ length both ∷ both

-- bytes are as long as two numbers of that many bytes each: 32, as the order of P-256 has, or 48,
-- as that of P-384 has
pub record AreHalves (numbers : List ℕ) (half : ℕ) : Type 0 where
  pub of_curve : (half ≡ 32) ⊎ (half ≡ 48)
  pub long : length numbers ≡ half + half

-- a valid signature of the message in another form: its base64 text (RFC 4648, section 4) or its
-- hexadecimal text (section 8), each without white space, or the two numbers of one by ECDSA
module _ (object : KeyObject) (message signature : List ℕ) where
  pub record IsBase64 : Type 0 where
    pub bytes : List ℕ
    pub decodes : decoded_of standard (without_space signature) ≡ Some bytes
    pub valid : IsValidFor object message bytes

  pub record IsHexadecimal : Type 0 where
    pub bytes : List ℕ
    pub decodes : decode_of (without_space signature) ≡ Ok bytes
    pub valid : IsValidFor object message bytes

  pub record AreNumbers : Type 0 where
    pub half : ℕ
    pub halves : AreHalves signature half
    pub valid : IsValidFor object message
        (signature_form (take half signature) (drop half signature))

-- a signature of the message by the RSA key that the object describes, in a form that is not taken:
-- by RSASSA-PKCS1-v1_5 (RFC 8017, section 8.2), or by RSASSA-PSS with a salt of another length than
-- 32 bytes (section 8.1)
module _ (object : KeyObject) (message signature : List ℕ) where
  pub record IsPkcs1 : Type 0 where
    pub key : RsaKey
    pub described : Describes object (Rsa key)
    pub signs : IsPkcs1Signature key message signature

  pub record IsOtherSalt (salt : ℕ) : Type 0 where
    pub key : RsaKey
    pub described : Describes object (Rsa key)
    pub signs : IsPssOfSalt key message signature salt
    pub other : salt ≢ 32

-- what it is, by the key that the object describes; a valid one signs the message
module _ (object : KeyObject) (message body signature : List ℕ) where
  abbrev pub IsSignatureFlaw : SignatureFlaw → Type 0
  IsSignatureFlaw Base64 = IsBase64 object message signature
  IsSignatureFlaw Hexadecimal = IsHexadecimal object message signature
  IsSignatureFlaw TwoNumbers = AreNumbers object message signature
  IsSignatureFlaw OfBody = IsValidFor object body signature
  IsSignatureFlaw (OfType other) = IsValidFor object (pae_of other.now body) signature
  IsSignatureFlaw Pkcs1 = IsPkcs1 object message signature
  IsSignatureFlaw (OtherSalt salt) = IsOtherSalt object message signature salt
  IsSignatureFlaw OtherRsa = object.scheme ≡ codes "rsassa-pss-sha256"
  IsSignatureFlaw Other = Unit {0}
