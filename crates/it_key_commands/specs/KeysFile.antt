-- The file of keys: a JSON object with a key object under each id (this profile's choice; a key
-- object is the one of in-toto 1.0 section 4.2).
use Rattle.std.specs.Prelude.{ℕ, List, [], ◌++◌, codes}
use Rattle.serde_json.specs.Data.{Data, Members, member, no_members, object, string}
use Rattle.serde_json.specs.Written.{compact_text}
use Rattle.it_base.specs.Document.{OfDocument}
use Rattle.it_base.specs.Table.{IsTable, Named}
use Rattle.it_dsse.specs.KeyObject.{IsKeyObject}
use Rattle.it_dsse.specs.declared.key_object.KeyObject.{KeyObject}
use Rattle.it_making.specs.ArtifactDocuments.{table_document}

-- the bytes are a file of these keys
abbrev pub KeysOf : List ℕ → Named KeyObject → Type 0
KeysOf = OfDocument (IsTable IsKeyObject)

-- a text under a name, and what follows it; only the latter where the text is empty
abbrev pub text_member : List ℕ → List ℕ → Members → Members
text_member name [] rest = rest
text_member name text rest = member name (string text) rest

-- the `keyval` of a key object: its texts that are not empty, in the order of their names' bytes
abbrev pub keyval_document : KeyObject → Data
keyval_document key = object
    (text_member (codes "identity") key.identity
    (text_member (codes "issuer") key.issuer
    (text_member (codes "public") key.public no_members)))

-- a key object as a JSON object, its members in the order of their bytes
abbrev pub key_document : KeyObject → Data
key_document key = object
    (member (codes "keytype") (string key.keytype)
    (member (codes "keyval") (keyval_document key)
    (member (codes "scheme") (string key.scheme) no_members)))

-- the written form of a file of keys: its JSON text with no space, the ids in the order of their
-- bytes, and a line feed
unfoldable pub keys_form : Named KeyObject → List ℕ
keys_form keys = compact_text (table_document key_document keys) ++ codes "\n"
