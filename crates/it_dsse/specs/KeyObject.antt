-- Key objects (in-toto 1.0 section 4.2; identity and issuer, TAP 18).
use Rattle.std.specs.Prelude.{◌≡◌, ℕ, List, [], IsTrue, is_some, Option, Some, codes}
use Rattle.std.specs.Prelude.{option_and_then, unwrap_or}
use Rattle.serde_json.specs.Data.{Data}
use Rattle.serde_json.specs.Find.{as_object, as_str}
use Rattle.it_base.specs.Document.{member_at}
use Rattle.it_dsse.specs.declared.key_object.KeyObject.{KeyObject}

-- the text of a member: empty where it is missing or is not a text (this profile's choice)
abbrev pub text_at : List ℕ → Option Data → List ℕ
text_at name d = unwrap_or (option_and_then as_str (option_and_then (member_at name) d)) []

-- a key object in a document
pub record IsKeyObject (d : Data) (object : KeyObject) : Type 0 where
  pub is_object : IsTrue (is_some (as_object d))
  pub keytype : object.keytype ≡ text_at (codes "keytype") (Some d)
  pub scheme : object.scheme ≡ text_at (codes "scheme") (Some d)
  pub public : object.public ≡ text_at (codes "public") (member_at (codes "keyval") d)
  pub identity : object.identity ≡ text_at (codes "identity") (member_at (codes "keyval") d)
  pub issuer : object.issuer ≡ text_at (codes "issuer") (member_at (codes "keyval") d)
