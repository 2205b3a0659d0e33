-- Public keys that are read from the texts of files.
use Rattle.std.specs.Prelude.{◌≡◌, ℕ, List, Some}
use Rattle.std.specs.Str.{trim_end}
use Rattle.it_pem.specs.PublicKeyText.{info_in}
use Rattle.it_public_keys.specs.Keys.{IsKey}
use Rattle.it_key_commands.specs.KeyFile.{IsBadCurveKey, IsBadPoint, IsBadRsaKey, IsNoPem}
use Rattle.it_key_commands.specs.KeyFile.{IsOfOtherKind, IsOtherFile, IsOtherText}
use Rattle.it_key_commands.specs.KeyInfo.{key_info}
use Rattle.it_key_commands.specs.declared.fault.FileFault.{FileFault}
use Rattle.it_key_commands.specs.declared.fault.FileFault.TheVariants.{
  NotPem,
  Other,
  OtherKind,
  BadPoint,
  BadCurveKey,
  BadRsaKey,
}
use Rattle.it_key_commands.specs.declared.key_file.FileKey.{FileKey}

-- the key is that of its text
pub record IsOfItsText (read : FileKey) : Type 0 where
  pub is_key : IsKey read.key
  pub info_is : info_in read.text.now ≡ Some (key_info read.key)

-- lines are a key's text, but for white space at their end
pub record IsReadKey (lines : List ℕ) (read : FileKey) : Type 0 where
  pub of_text : IsOfItsText read
  pub text_is : read.text.now ≡ trim_end lines

-- why an info is not that of a key
abbrev pub IsInfoFault : List ℕ → FileFault → Type 0
IsInfoFault info (NotPem file) = ⊥
IsInfoFault info (Other text) = ⊥
IsInfoFault info OtherKind = IsOfOtherKind info
IsInfoFault info BadPoint = IsBadPoint info
IsInfoFault info (BadCurveKey curve) = IsBadCurveKey info curve
IsInfoFault info BadRsaKey = IsBadRsaKey info

-- why a text without an info is not a public key
abbrev pub IsTextFault : List ℕ → FileFault → Type 0
IsTextFault text (NotPem file) = IsNoPem text × IsOtherFile text file
IsTextFault text (Other other) = IsOtherText text other
IsTextFault text OtherKind = ⊥
IsTextFault text BadPoint = ⊥
IsTextFault text (BadCurveKey curve) = ⊥
IsTextFault text BadRsaKey = ⊥
