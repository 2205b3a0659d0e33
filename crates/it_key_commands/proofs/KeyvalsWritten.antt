-- The `keyval` of a key object that is written.
use Rattle.std.proofs.Common.{◌≡◌, ℕ, ◌≤◌, List, [], ◌∷◌, codes, false, Some, refl, lit≤, arith}
use Rattle.serde_json.specs.Data.{Data, depth, no_members, object}
use Rattle.serde_json.specs.Written.{has_float}
use Rattle.it_dsse.specs.KeyObject.{IsKeyObject, text_at}
use Rattle.it_dsse.specs.declared.key_object.KeyObject.{KeyObject}
use Rattle.it_key_commands.specs.KeysFile.{key_document, text_member}
use Rattle.it_key_commands.specs.inside.KeyValues.{put_filled}

abbrev keyval_of : (identity issuer public : List ℕ) → Data
keyval_of identity issuer public = object
    (text_member (codes "identity") identity
    (text_member (codes "issuer") issuer
    (text_member (codes "public") public no_members)))

-- texts that are put one after another are those of the `keyval`
pub keyval_puts : (identity issuer public : List ℕ)
    → object (put_filled (codes "public") public (put_filled (codes "issuer") issuer
    (put_filled (codes "identity") identity no_members)))
    ≡ keyval_of identity issuer public
keyval_puts [] [] [] = refl
keyval_puts [] [] (c ∷ public) = refl
keyval_puts [] (b ∷ issuer) [] = refl
keyval_puts [] (b ∷ issuer) (c ∷ public) = refl
keyval_puts (a ∷ identity) [] [] = refl
keyval_puts (a ∷ identity) [] (c ∷ public) = refl
keyval_puts (a ∷ identity) (b ∷ issuer) [] = refl
keyval_puts (a ∷ identity) (b ∷ issuer) (c ∷ public) = refl

-- a `keyval` has these texts under its names, nests nothing, and has no float
abbrev IsKeyval : Data → (identity issuer public : List ℕ) → Type 0
IsKeyval keyval identity issuer public =
    (identity ≡ text_at (codes "identity") (Some keyval))
    × (issuer ≡ text_at (codes "issuer") (Some keyval))
    × (public ≡ text_at (codes "public") (Some keyval))
    × (depth keyval ≤ 1)
    × (has_float keyval ≡ false)

keyval_is : (identity issuer public : List ℕ)
    → IsKeyval (keyval_of identity issuer public) identity issuer public
keyval_is [] [] [] = (refl, refl, refl, lit≤ tt, refl)
keyval_is [] [] (c ∷ public) = (refl, refl, refl, lit≤ tt, refl)
keyval_is [] (b ∷ issuer) [] = (refl, refl, refl, lit≤ tt, refl)
keyval_is [] (b ∷ issuer) (c ∷ public) = (refl, refl, refl, lit≤ tt, refl)
keyval_is (a ∷ identity) [] [] = (refl, refl, refl, lit≤ tt, refl)
keyval_is (a ∷ identity) [] (c ∷ public) = (refl, refl, refl, lit≤ tt, refl)
keyval_is (a ∷ identity) (b ∷ issuer) [] = (refl, refl, refl, lit≤ tt, refl)
keyval_is (a ∷ identity) (b ∷ issuer) (c ∷ public) = (refl, refl, refl, lit≤ tt, refl)

-- a key object that is written reads back
pub key_reads_back : (key : KeyObject) → IsKeyObject (key_document key) key
key_reads_back key =
    let keyval = keyval_is key.identity key.issuer key.public in
    record {
      is_object = refl;
      keytype = refl;
      scheme = refl;
      public = keyval.2;
      identity = keyval.0;
      issuer = keyval.1;
    }

pub key_is_shallow : (key : KeyObject) → depth (key_document key) ≤ 2
key_is_shallow key = omega (arith, (keyval_is key.identity key.issuer key.public).3)

pub key_has_no_float : (key : KeyObject) → has_float (key_document key) ≡ false
key_has_no_float key = rw ((keyval_is key.identity key.issuer key.public).4) refl
