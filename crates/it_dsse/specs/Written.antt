-- The written form of envelopes (DSSE v1.0, "Envelope", its JSON form).
use Rattle.std.specs.Prelude.{ℕ, List, map, codes}
use Rattle.serde_json.specs.Data.{Data, array, member, no_members, object, string}
use Rattle.serde_json.specs.View.{items_of}
use Rattle.serde_json.specs.Written.{compact_text}
use Rattle.it_base.specs.Base64Text.{base64_encoded}
use Rattle.it_dsse.specs.declared.envelope.Envelope.{Envelope}
use Rattle.it_dsse.specs.declared.envelope.Signature.{Signature}

-- a signature as a JSON object, which always has the hint about the key
abbrev pub signature_document : Signature → Data
signature_document signature = object
    (member (codes "keyid") (string signature.keyid)
    (member (codes "sig") (string (base64_encoded signature.sig))
    no_members))

-- the signatures as a JSON list
abbrev pub signatures_document : List Signature → Data
signatures_document signatures = array (items_of (map signature_document signatures))

-- an envelope as a JSON object
abbrev pub document_of : Envelope → Data
document_of envelope = object
    (member (codes "payload") (string (base64_encoded envelope.payload))
    (member (codes "payloadType") (string envelope.payload_type)
    (member (codes "signatures") (signatures_document envelope.signatures)
    no_members)))

-- the written form of an envelope: its JSON text with no space and no line feed (this profile's
-- choice; DSSE v1.0 fixes no spelling)
unfoldable pub written_form : Envelope → List ℕ
written_form envelope = compact_text (document_of envelope)
