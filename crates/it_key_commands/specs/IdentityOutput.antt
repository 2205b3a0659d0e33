-- The file of keys of an identity (this profile's choice; the key object is that of TAP 18).
use Rattle.std.specs.Prelude.{◌≡◌, ℕ, List, [], ◌∷◌, Option, codes}
use Rattle.it_base.specs.Table.{Named}
use Rattle.it_dsse.specs.declared.key_object.KeyObject.{KeyObject}
use Rattle.it_identity.specs.Identity.{IsIdentity}
use Rattle.it_identity.specs.KeyObject.{DescribesIdentity}
use Rattle.it_identity.specs.declared.identity.Identity.{Identity}
use Rattle.it_key_commands.specs.KeyOutput.{keys_of}
use Rattle.it_key_commands.specs.KeysFile.{KeysOf, key_document, keys_form}

-- the key object of an identity: who signs, and who says so, in the form of in-toto's own tools
abbrev pub identity_object : (name issuer : List ℕ) → KeyObject
identity_object name issuer = record {
  keytype = codes "sigstore-oidc";
  scheme = codes "Fulcio";
  public = [];
  identity = name;
  issuer = issuer;
}

-- the identity of these two texts
abbrev pub identity_of : (name issuer : List ℕ) → Identity
identity_of name issuer = record { name = name; issuer = issuer }

-- that key object alone, under the id, if one is given, otherwise its own
abbrev pub identity_keys : (name issuer : List ℕ) → Option (List ℕ) → Named KeyObject
identity_keys name issuer id = keys_of id (identity_object name issuer ∷ [])

-- the text is the file of the identity's key object, and reads back as this one and no other; where
-- neither text is empty or long, the object describes the identity
pub record IsIdentityOutput (name issuer : List ℕ) (id : Option (List ℕ)) (text : List ℕ) : Type 0
  where
    pub text_is : text ≡ keys_form (identity_keys name issuer id)
    pub reads_back : KeysOf text (identity_keys name issuer id)
    pub only : (keys : Named KeyObject) → KeysOf text keys → keys ≡ identity_keys name issuer id
    pub describes : IsIdentity (identity_of name issuer)
        → DescribesIdentity (key_document (identity_object name issuer)) (identity_of name issuer)
