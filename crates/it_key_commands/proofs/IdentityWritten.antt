-- The file of the key object of an identity.
use Rattle.std.proofs.Common.{◌≡◌, ℕ, List, [], ◌∷◌, Option, arith, refl, subst}
use Rattle.it_base.specs.Table.{IsTable, Named}
use Rattle.it_docs.proofs.Same.{document_same, keys_same}
use Rattle.it_dsse.specs.KeyObject.{IsKeyObject}
use Rattle.it_dsse.specs.declared.key_object.KeyObject.{KeyObject}
use Rattle.it_identity.specs.Identity.{IsIdentity}
use Rattle.it_identity.specs.KeyObject.{DescribesIdentity}
use Rattle.it_key_commands.specs.IdentityOutput.{IsIdentityOutput, identity_keys, identity_object}
use Rattle.it_key_commands.specs.IdentityOutput.{identity_of}
use Rattle.it_key_commands.specs.KeysFile.{KeysOf, key_document, keys_form}

-- the object describes the identity
described : (name issuer : List ℕ) → IsIdentity (identity_of name issuer)
    → DescribesIdentity (key_document (identity_object name issuer)) (identity_of name issuer)
described [] issuer is = let some = is.name.some in absurd (omega (arith, some))
described (a ∷ name) [] is = let some = is.issuer.some in absurd (omega (arith, some))
described (a ∷ name) (b ∷ issuer) is = record {
  scheme = refl;
  name = refl;
  issuer = refl;
  is_identity = is;
}

-- a text of the keys is the command's output
pub is_identity_output : (name issuer : List ℕ) (id : Option (List ℕ)) (keys : Named KeyObject)
    (text : List ℕ) → keys ≡ identity_keys name issuer id → text ≡ keys_form keys
    → KeysOf text keys → IsIdentityOutput name issuer id text
is_identity_output name issuer id keys text is form back =
    let same = subst (KeysOf text) is back in
    record {
      text_is = subst (λ k. text ≡ keys_form k) is form;
      reads_back = same;
      only = λ other h.
          document_same (IsTable IsKeyObject) keys_same text other (identity_keys name issuer id) h same;
      describes = described name issuer;
    }
