-- Who signed the provenance of a file, where lines vouch for it (this profile's choice of what is
-- told).
use Rattle.std.specs.Prelude.{ℕ, List, [], ◌∷◌, ◌&&◌, Option, None, Some, option_map}
use Rattle.std.specs.Prelude.{if◌then◌else◌}
use Rattle.std.specs.FinMap.{entries}
use Rattle.std.specs.Option.{option_or}
use Rattle.std.specs.Str.{bytes_eq}
use Rattle.it_docs.specs.declared.policy.Builder.{Builder}
use Rattle.it_dsse.specs.Signed.{is_admitted, message_of}
use Rattle.it_dsse.specs.declared.envelope.Envelope.{Envelope}
use Rattle.it_dsse.specs.declared.envelope.Signature.{Signature}
use Rattle.it_dsse.specs.declared.key_object.KeyObject.{KeyObject}
use Rattle.it_identity.specs.declared.identity.Identity.{Identity}
use Rattle.it_json_report.specs.declared.evidence.Signer.{Signer}
use Rattle.it_vouched.specs.ObjectIdentity.{describes}
use Rattle.it_vouched.specs.declared.vouched.Vouched.{Vouched}

-- the answer of the first element that has one
abbrev pub first_answer : {X Y : Type 0} → (X → Option Y) → List X → Option Y
first_answer f [] = None
first_answer f (x ∷ xs) = option_or (f x) (first_answer f xs)

-- a key's object, where the signature is admitted for the key's id, and the key is the identity
abbrev pub object_for : Signature → Identity → List ℕ × KeyObject → Option KeyObject
object_for signature identity key =
    if is_admitted key.0 signature && describes key.1 identity then Some key.1 else None

-- that of the first such key of a builder, where the builder has this id
abbrev pub object_of : List ℕ → Signature → Identity → Builder → Option KeyObject
object_of id signature identity builder =
    if bytes_eq builder.id id
    then first_answer (object_for signature identity) (entries builder.keys) else None

-- that of the first such builder, where a line vouches with this signature and this message
abbrev pub object_signing : List Builder → List ℕ → List ℕ → Vouched → Signature → Option KeyObject
object_signing builders id message v signature =
    if bytes_eq v.signature signature.sig && bytes_eq v.message message
    then first_answer (object_of id signature v.identity) builders else None

-- the identity and the issuer of an object, with the time of a log
abbrev pub signer_of : ℕ → KeyObject → Signer
signer_of time object =
    record { identity = object.identity; issuer = object.issuer; logged_at = time }

-- who signed an envelope, where a line vouches for it: an identity of a builder of an id
abbrev pub signer_by : List Builder → List ℕ → Envelope → Vouched → Option Signer
signer_by builders id envelope v =
    option_map (signer_of v.time)
    (first_answer (object_signing builders id (message_of envelope) v) envelope.signatures)

-- who signed it by the first of the lines that vouches for it
abbrev pub signer_among : List Vouched → List Builder → List ℕ → Envelope → Option Signer
signer_among vouched builders id envelope = first_answer (signer_by builders id envelope) vouched
