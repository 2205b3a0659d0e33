-- The line of a note on a key object that no check knows (this project's words).
use Rattle.std.specs.Prelude.{ℕ, List, [], ◌++◌, codes}
use Rattle.it_report.specs.Name.{cut_form}
use Rattle.it_key_notes.specs.declared.reason.Reason.{Reason}
use Rattle.it_key_notes.specs.declared.reason.Reason.TheVariants.{OtherScheme, NoSecret, PublicKey}
use Rattle.it_key_notes.specs.declared.reason.Reason.TheVariants.{NoDigits, NoEd25519Key}
use Rattle.it_key_notes.specs.declared.reason.Reason.TheVariants.{NoPemText, NoP256Key, NoP384Key}
use Rattle.it_key_notes.specs.declared.reason.Reason.TheVariants.{NoRsaKey, Identity, NoIdentity}
use Rattle.it_key_notes.specs.declared.unknown_key.UnknownKey.{UnknownKey}

-- what is said of the object
abbrev pub phrase_of : Reason → List ℕ
phrase_of (OtherScheme scheme) = codes ": no check knows its scheme, "
phrase_of NoSecret = codes ": no ring has the secret of it"
phrase_of PublicKey = codes ": a public key, which is checked with --public-keys"
phrase_of NoDigits = codes ": its public is not 64 hexadecimal digits"
phrase_of NoEd25519Key = codes ": its public is no Ed25519 key: no point, or one of small order"
phrase_of NoPemText = codes ": its public does not read as a PEM text of a public key"
phrase_of NoP256Key =
    codes ": its PEM text is no P-256 key that is taken: an uncompressed point of the curve"
phrase_of NoP384Key =
    codes ": its PEM text is no P-384 key that is taken: an uncompressed point of the curve"
phrase_of NoRsaKey =
    codes ": its PEM text is no RSA key that is taken: of 2,048 to 4,096 bits, in whole bytes"
phrase_of Identity = codes ": an identity, which is checked with --trusted-root"
phrase_of NoIdentity = codes ": its identity or its issuer is empty or has more than 512 bytes"

-- the name that follows
abbrev pub detail_of : Reason → List ℕ
detail_of (OtherScheme scheme) = cut_form scheme
detail_of reason = []

-- the line of a note
unfoldable pub key_line : UnknownKey → List ℕ
key_line note =
    codes "key " ++ cut_form note.id ++ phrase_of note.reason ++ detail_of note.reason
    ++ codes "\n"
