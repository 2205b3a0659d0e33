-- Which part of the body of an entry is not about a signature: the first, in an order that is this
-- profile's choice.
use Rattle.std.specs.Prelude.{◌⊎◌, ℕ, List, MatchOption, codes}
use Rattle.it_base.specs.Base64Text.{IsBase64}
use Rattle.it_base.specs.Parts.{IsPart}
use Rattle.it_base.specs.Text.{IsText}
use Rattle.it_log_entry.specs.Agreement.{IsOfKind}
use Rattle.it_log_entry.specs.BodyParts.{BodyParts, Parts}
use Rattle.it_log_entry.specs.CertificateText.{IsEncodedCertificate}
use Rattle.it_log_entry.specs.IntotoBody.{IsTwiceBase64}
use Rattle.it_log_entry.specs.PayloadHash.{IsPayloadHash}
use Rattle.it_log_entry.specs.declared.body_shortfall.BodyShortfall.{BodyShortfall}
use Rattle.it_log_entry.specs.declared.body_shortfall.BodyShortfall.TheVariants as parts
use Rattle.it_log_entry.specs.declared.kind.EntryKind.{EntryKind}
use Rattle.it_log_entry.specs.declared.logged.Logged.{Logged}

-- the parts say that they are about this payload
abbrev pub SaysPayload : Logged → Parts → Type 0
SaysPayload logged said = IsPayloadHash said.hash logged.payload.now

-- they say this payload type, where they have an envelope
abbrev pub SaysType : Logged → Parts → Type 0
SaysType logged said = MatchOption said.envelope (Unit {0})
    (λ envelope. IsPart IsText (codes "payloadType") envelope logged.payload_type.now)

-- they say this signature, by the kind of the body
abbrev pub SaysSignature : EntryKind → Logged → Parts → Type 0
SaysSignature kind logged said =
    (IsOfKind kind (codes "dsse") (codes "0.0.1")
    × IsPart IsBase64 (codes "signature") said.signature logged.signature.now)
    ⊎ (IsOfKind kind (codes "intoto") (codes "0.0.2")
    × IsPart IsTwiceBase64 (codes "sig") said.signature logged.signature.now)

-- they say this certificate, by the kind of the body
abbrev pub SaysCertificate : EntryKind → Logged → Parts → Type 0
SaysCertificate kind logged said =
    (IsOfKind kind (codes "dsse") (codes "0.0.1")
    × IsPart IsEncodedCertificate (codes "verifier") said.signature logged.certificate.now)
    ⊎ (IsOfKind kind (codes "intoto") (codes "0.0.2")
    × IsPart IsEncodedCertificate (codes "publicKey") said.signature logged.certificate.now)

-- the body has parts, which say so
abbrev pub BodySays : EntryKind → List ℕ → (Parts → Type 0) → Type 0
BodySays kind body Says = (said : Parts) × BodyParts kind body said × Says said

-- the first part that is not about the signature
abbrev pub BodyMisses : EntryKind → List ℕ → Logged → BodyShortfall → Type 0
BodyMisses kind body logged parts.Form = (said : Parts) → ¬ BodyParts kind body said
BodyMisses kind body logged parts.Payload = ((said : Parts) × BodyParts kind body said)
    × ¬ BodySays kind body (SaysPayload logged)
BodyMisses kind body logged parts.PayloadType =
    BodySays kind body (SaysPayload logged) × ¬ BodySays kind body (SaysType logged)
BodyMisses kind body logged parts.Signature = BodySays kind body (SaysPayload logged)
    × BodySays kind body (SaysType logged) × ¬ BodySays kind body (SaysSignature kind logged)
BodyMisses kind body logged parts.Certificate = BodySays kind body (SaysPayload logged)
    × BodySays kind body (SaysType logged) × BodySays kind body (SaysSignature kind logged)
    × ¬ BodySays kind body (SaysCertificate kind logged)
