-- Public keys that are read from the texts of files.
use Rattle.std.proofs.Common.{◌≡◌, ◌∙◌, ℕ, List, [], length, Ok, refl, sym, ap, subst, inr}
use Rattle.std.specs.Str.{trim_end}
use Rattle.std.proofs.lemmas.Slice.Eq.{bytes_eq-Decides}
use Rattle.hex.specs.Hex.{decode_sized, encode_lower}
use Rattle.it_ed25519.specs.PublicKey.{IsPublicKey}
use Rattle.it_pem.specs.PublicKeyText.{info_in}
use Rattle.it_public_keys.specs.declared.key.Key.TheVariants.{Ed25519}
use Rattle.it_key_commands.specs.KeyFile.{IsKeyFile, IsLinesFault, key_object, without_returns}
use Rattle.it_key_commands.specs.Signers.{Describes}
use Rattle.it_key_commands.specs.declared.fault.FileFault.{FileFault}
use Rattle.it_key_commands.specs.declared.fault.FileFault.TheVariants.{
  NotPem,
  Other,
  OtherKind,
  BadPoint,
  BadCurveKey,
  BadRsaKey,
}
use Rattle.it_key_commands.specs.declared.key_file.FileKey.{FileKey}
use Rattle.it_key_commands.specs.inside.ReadKeys.{IsReadKey, IsTextFault}

-- the key object of a key whose digits read back describes the key
pub described : (key : List ℕ) → IsPublicKey key
    → decode_sized (encode_lower key) (length key) ≡ Ok key
    → Describes (key_object [] (Ed25519 key)) (Ed25519 key)
described key is reads =
    let sized : decode_sized (encode_lower key) 32 ≡ Ok key =
    subst (λ n. decode_sized (encode_lower key) n ≡ Ok key) is.long reads in
    record {
      written = rw sized ((bytes_eq-Decides key key).1 refl);
      is_key = is;
    }

-- a file that is read as a key is that key
pub read_file : (file : List ℕ) (read : FileKey) → IsReadKey (without_returns file) read
    → Describes (key_object read.text.now read.key) read.key
    → IsKeyFile file (key_object read.text.now read.key)
read_file file read is describes = record {
  key = read.key;
  info_is = ap info_in (sym is.text_is) ∙ is.of_text.info_is;
  object_is = ap (λ text. key_object text read.key) is.text_is;
  describes = describes;
}

-- what is wrong with a text is wrong with its lines
pub text_fails : (lines text : List ℕ) (fault : FileFault) → text ≡ trim_end lines
    → IsTextFault text fault → IsLinesFault lines fault
text_fails lines text (NotPem file) is fails =
    let same = subst (λ t. IsTextFault t (NotPem file)) is fails in (inr same.0, same.1)
text_fails lines text (Other other) is fails =
    subst (λ t. IsTextFault t (Other other)) is fails
text_fails lines text OtherKind is fails = absurd fails
text_fails lines text BadPoint is fails = absurd fails
text_fails lines text (BadCurveKey curve) is fails = absurd fails
text_fails lines text BadRsaKey is fails = absurd fails
