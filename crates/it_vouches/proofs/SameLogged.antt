-- An entry vouches for what is logged, wherever that lies in memory.
use Rattle.std.proofs.Common.{◌≡◌, ℕ, Bool, List, MatchOption, codes, sym, subst, inl, inr, Any}
use Rattle.it_base.specs.Base64Text.{IsBase64}
use Rattle.it_base.specs.Parts.{IsPart}
use Rattle.it_base.specs.Text.{IsText}
use Rattle.it_log_entry.specs.Agreement.{BodyAgrees}
use Rattle.it_log_entry.specs.BodyMisses.{BodyMisses, BodySays, SaysCertificate, SaysPayload, SaysSignature, SaysType}
use Rattle.it_log_entry.specs.BodyParts.{Parts}
use Rattle.it_log_entry.specs.CertificateText.{IsEncodedCertificate}
use Rattle.it_log_entry.specs.EntryMisses.{EntryMisses, SpeaksOf}
use Rattle.it_log_entry.specs.IntotoBody.{IsTwiceBase64}
use Rattle.it_log_entry.specs.PayloadHash.{IsPayloadHash}
use Rattle.it_log_entry.specs.declared.body_shortfall.BodyShortfall.{BodyShortfall}
use Rattle.it_log_entry.specs.declared.body_shortfall.BodyShortfall.TheVariants as parts
use Rattle.it_log_entry.specs.declared.entry.LogEntry.{LogEntry}
use Rattle.it_log_entry.specs.declared.kind.EntryKind.{EntryKind}
use Rattle.it_log_entry.specs.declared.logged.Logged.{Logged}
use Rattle.it_log_entry.specs.declared.shortfall.EntryShortfall.{EntryShortfall}
use Rattle.it_log_entry.specs.declared.shortfall.EntryShortfall.TheVariants as shortfalls
use Rattle.it_log_entry.proofs.Parts.{agreeing, says_all}
use Rattle.it_log.specs.declared.log.Log.{Log}
use Rattle.it_trust_root.specs.declared.root_log.RootLog.{RootLog}
use Rattle.it_trust_root.specs.declared.root_log.RootLog.TheVariants.{Usable, PassedOver}
use Rattle.it_vouches.specs.EntryMissed.{MissesWith, MissesWithOne}
use Rattle.it_vouches.specs.Logged.{VouchesBy}

-- the same, wherever it lies
pub record IsSame (x y : Logged) : Type 0 where
  pub payload : x.payload.now ≡ y.payload.now
  pub payload_type : x.payload_type.now ≡ y.payload_type.now
  pub signature : x.signature.now ≡ y.signature.now
  pub certificate : x.certificate.now ≡ y.certificate.now

-- bodies
says_payload : (x y : Logged) → IsSame x y → (said : Parts) → SaysPayload x said → SaysPayload y said
says_payload x y same said h = subst (IsPayloadHash said.hash) same.payload h

says_type : (x y : Logged) → IsSame x y → (said : Parts) → SaysType x said → SaysType y said
says_type x y same said h = subst (λ text. MatchOption said.envelope (Unit {0})
    (λ envelope. IsPart IsText (codes "payloadType") envelope text)) same.payload_type h

says_signature : (kind : EntryKind) (x y : Logged) → IsSame x y → (said : Parts) → SaysSignature kind x said
    → SaysSignature kind y said
says_signature kind x y same said (inl h) =
    inl (h.0, subst (IsPart IsBase64 (codes "signature") said.signature) same.signature h.1)
says_signature kind x y same said (inr h) =
    inr (h.0, subst (IsPart IsTwiceBase64 (codes "sig") said.signature) same.signature h.1)

says_certificate : (kind : EntryKind) (x y : Logged) → IsSame x y → (said : Parts) → SaysCertificate kind x said
    → SaysCertificate kind y said
says_certificate kind x y same said (inl h) =
    inl (h.0, subst (IsPart IsEncodedCertificate (codes "verifier") said.signature) same.certificate h.1)
says_certificate kind x y same said (inr h) =
    inr (h.0, subst (IsPart IsEncodedCertificate (codes "publicKey") said.signature) same.certificate h.1)

agrees : (kind : EntryKind) (bytes : List ℕ) (x y : Logged) → IsSame x y → BodyAgrees kind bytes x → BodyAgrees kind bytes y
agrees kind bytes x y same h =
    let (said, is, says) = agreeing kind bytes x h in
    says_all kind bytes y said is (record {
      payload = says_payload x y same said says.payload;
      payload_type = says_type x y same said says.payload_type;
      signature = says_signature kind x y same said says.signature;
      certificate = says_certificate kind x y same said says.certificate;
    })

-- what is said of one is said of the other
body_says : (kind : EntryKind) (bytes : List ℕ) (P Q : Parts → Type 0) → ((said : Parts) → P said → Q said)
    → BodySays kind bytes P → BodySays kind bytes Q
body_says kind bytes P Q to (said, is, h) = (said, is, to said h)

-- logs
pub vouches_same : (needs : Bool) (entry : LogEntry) (x y : Logged) → IsSame x y → (log : RootLog) → VouchesBy needs entry x log
    → VouchesBy needs entry y log
vouches_same needs entry x y same (Usable log) h = record {
  id_is = h.id_is;
  counts = h.counts;
  agrees = agrees entry.kind entry.body x y same h.agrees;
  included = h.included;
  promised = h.promised;
}
vouches_same needs entry x y same (PassedOver reason) h = h

pub by_log_same : (needs : Bool) (entry : LogEntry) (x y : Logged) → IsSame x y → (logs : List RootLog)
    → Any (VouchesBy needs entry x) logs → Any (VouchesBy needs entry y) logs
by_log_same needs entry x y same logs any = (any.0, any.1, any.2, any.3, vouches_same needs entry x y same any.1 any.4)

-- ---- conditions that are missed
turned : (x y : Logged) → IsSame x y → IsSame y x
turned x y same = record {
  payload = sym same.payload;
  payload_type = sym same.payload_type;
  signature = sym same.signature;
  certificate = sym same.certificate;
}

speaks_same : (log : Log) (entry : LogEntry) (x y : Logged) → IsSame x y → SpeaksOf log entry x → SpeaksOf log entry y
speaks_same log entry x y same speaks = record {
  id_is = speaks.id_is;
  counts = speaks.counts;
  agrees = agrees entry.kind entry.body x y same speaks.agrees;
}

module _ (kind : EntryKind) (bytes : List ℕ) (x y : Logged) (same : IsSame x y) where
  payload_same : BodySays kind bytes (SaysPayload x) → BodySays kind bytes (SaysPayload y)
  payload_same = body_says kind bytes (SaysPayload x) (SaysPayload y) (says_payload x y same)

  type_same : BodySays kind bytes (SaysType x) → BodySays kind bytes (SaysType y)
  type_same = body_says kind bytes (SaysType x) (SaysType y) (says_type x y same)

  signature_same : BodySays kind bytes (SaysSignature kind x) → BodySays kind bytes (SaysSignature kind y)
  signature_same = body_says kind bytes (SaysSignature kind x) (SaysSignature kind y) (says_signature kind x y same)

  certificate_same : BodySays kind bytes (SaysCertificate kind x) → BodySays kind bytes (SaysCertificate kind y)
  certificate_same =
      body_says kind bytes (SaysCertificate kind x) (SaysCertificate kind y) (says_certificate kind x y same)

body_same : (kind : EntryKind) (bytes : List ℕ) (x y : Logged) → IsSame x y → (part : BodyShortfall)
    → BodyMisses kind bytes x part → BodyMisses kind bytes y part
body_same kind bytes x y same parts.Form m = m
body_same kind bytes x y same parts.Payload m = (m.0, λ h. m.1 (payload_same kind bytes y x (turned x y same) h))
body_same kind bytes x y same parts.PayloadType m =
    (payload_same kind bytes x y same m.0, λ h. m.1 (type_same kind bytes y x (turned x y same) h))
body_same kind bytes x y same parts.Signature m = (
  payload_same kind bytes x y same m.0,
  type_same kind bytes x y same m.1,
  λ h. m.2 (signature_same kind bytes y x (turned x y same) h),
)
body_same kind bytes x y same parts.Certificate m = (
  payload_same kind bytes x y same m.0,
  type_same kind bytes x y same m.1,
  signature_same kind bytes x y same m.2,
  λ h. m.3 (certificate_same kind bytes y x (turned x y same) h),
)

entry_same : (log : Log) (needs : Bool) (entry : LogEntry) (x y : Logged) → IsSame x y → (s : EntryShortfall)
    → EntryMisses log needs entry x s → EntryMisses log needs entry y s
entry_same log needs entry x y same shortfalls.Log m = m
entry_same log needs entry x y same shortfalls.Time m = m
entry_same log needs entry x y same shortfalls.Kind m = m
entry_same log needs entry x y same (shortfalls.Body part) m =
    (m.0, m.1, m.2, body_same entry.kind entry.body x y same part m.3)
entry_same log needs entry x y same shortfalls.NoProof m = (speaks_same log entry x y same m.0, m.1, m.2)
entry_same log needs entry x y same shortfalls.Inclusion m = (speaks_same log entry x y same m.0, m.1)
entry_same log needs entry x y same (shortfalls.Checkpoint missed) m = (speaks_same log entry x y same m.0, m.1)
entry_same log needs entry x y same shortfalls.Promise m = (speaks_same log entry x y same m.0, m.1, m.2)

with_same : (needs : Bool) (entry : LogEntry) (x y : Logged) → IsSame x y → (s : EntryShortfall) (log : RootLog)
    → MissesWith needs entry x log s → MissesWith needs entry y log s
with_same needs entry x y same s (Usable log) m = entry_same log needs entry x y same s m
with_same needs entry x y same s (PassedOver reason) m = m

pub missed_same : (logs : List RootLog) (needs : Bool) (entry : LogEntry) (x y : Logged) → IsSame x y → (s : EntryShortfall)
    → MissesWithOne logs needs entry x s → MissesWithOne logs needs entry y s
missed_same logs needs entry x y same s (inl is) = inl is
missed_same logs needs entry x y same s (inr any) =
    inr (any.0, any.1, any.2, any.3, with_same needs entry x y same s any.1 any.4)
