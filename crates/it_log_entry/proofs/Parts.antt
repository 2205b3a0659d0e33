-- The parts of the bodies of entries: each body has one list of them at most, and is about what
-- they say.
use Rattle.std.proofs.Common.{◌≡◌, ◌∙◌, ◌⊎◌, ℕ, List, [], ◌∷◌, Option, Some, None, MatchOption, codes, inl, inr, refl, sym, subst}
use Rattle.std.proofs.lemmas.Option.{same_Some}
use Rattle.serde_json.specs.Data.{Data, Items, no_items, item}
use Rattle.serde_json.specs.Find.{as_array}
use Rattle.it_base.specs.Document.{member_at}
use Rattle.it_base.specs.Parts.{IsPart}
use Rattle.it_base.specs.Sequence.{AreEach, IsList}
use Rattle.it_base.specs.Text.{IsText}
use Rattle.it_base.proofs.Documents.{same_document}
use Rattle.it_log_entry.specs.Agreement.{BodyAgrees, IsOfKind, IsSpec}
use Rattle.it_log_entry.specs.BodyMisses.{BodyMisses, BodySays, SaysCertificate, SaysPayload, SaysSignature, SaysType}
use Rattle.it_log_entry.specs.BodyParts.{AreDsseParts, AreIntotoParts, ArePartsOf, BodyParts, HasParts, Parts}
use Rattle.it_log_entry.specs.DsseBody.{IsDsseBody, IsDsseSignature}
use Rattle.it_log_entry.specs.IntotoBody.{IsIntotoBody, IsIntotoContent, IsIntotoEnvelope, IsIntotoSignature}
use Rattle.it_log_entry.specs.OnlyItem.{IsOnlyItem}
use Rattle.it_log_entry.specs.PayloadHash.{IsPayloadHash}
use Rattle.it_log_entry.specs.declared.body_shortfall.BodyShortfall.{BodyShortfall}
use Rattle.it_log_entry.specs.declared.body_shortfall.BodyShortfall.TheVariants as parts
use Rattle.it_log_entry.specs.declared.kind.EntryKind.{EntryKind}
use Rattle.it_log_entry.specs.declared.logged.Logged.{Logged}
use Rattle.it_log_entry.specs.inside.Said.{AllSay, SaidMisses}

-- ---- members
there : {X : Type 0} (P : Data → X → Type 0) (name : List ℕ) (d : Data) (x : X) (found : Option Data)
    → member_at name d ≡ found → MatchOption found ⊥ (λ v. P v x)
    → (v : Data) × (member_at name d ≡ Some v) × P v x
there P name d x None is h = absurd h
there P name d x (Some v) is h = (v, is, h)

part_there : {X : Type 0} (P : Data → X → Type 0) (name : List ℕ) (d : Data) (x : X) → IsPart P name d x
    → (v : Data) × (member_at name d ≡ Some v) × P v x
part_there P name d x h = there P name d x (member_at name d) refl h

pub part_from : {X : Type 0} (P : Data → X → Type 0) (name : List ℕ) (d v : Data) (x : X)
    → member_at name d ≡ Some v → P v x → IsPart P name d x
part_from P name d v x is h = subst (λ found. MatchOption found ⊥ (λ w. P w x)) (sym is) h

pub part_of : {X : Type 0} (P : Data → X → Type 0) (name : List ℕ) (d v : Data) (x : X)
    → member_at name d ≡ Some v → IsPart P name d x → P v x
part_of P name d v x is h = subst (λ found. MatchOption found ⊥ (λ w. P w x)) is h

-- ---- lists of one item
one_item : {X : Type 0} (P : Data → X → Type 0) (x : X) (items : Option Items)
    → MatchOption items ⊥ (λ ds. AreEach P ds (x ∷ []))
    → (only : Data) × MatchOption items ⊥ (λ ds. AreEach (λ d e. d ≡ e) ds (only ∷ [])) × P only x
one_item P x None h = absurd h
one_item P x (Some no_items) h = absurd h
one_item P x (Some (item d no_items)) h = (d, (refl, tt), h.0)
one_item P x (Some (item d (item e ds))) h = absurd h.1

same_items : (items : Option Items) (one other : Data)
    → MatchOption items ⊥ (λ ds. AreEach (λ d e. d ≡ e) ds (one ∷ []))
    → MatchOption items ⊥ (λ ds. AreEach (λ d e. d ≡ e) ds (other ∷ [])) → one ≡ other
same_items None one other h k = absurd h
same_items (Some no_items) one other h k = absurd h
same_items (Some (item d no_items)) one other h k = sym h.0 ∙ k.0
same_items (Some (item d (item e ds))) one other h k = absurd h.1

each_only : {X : Type 0} (P : Data → X → Type 0) (only : Data) (x : X) (items : Option Items)
    → MatchOption items ⊥ (λ ds. AreEach (λ d e. d ≡ e) ds (only ∷ [])) → P only x
    → MatchOption items ⊥ (λ ds. AreEach P ds (x ∷ []))
each_only P only x None h p = absurd h
each_only P only x (Some no_items) h p = absurd h
each_only P only x (Some (item d no_items)) h p = (subst (λ e. P e x) (sym h.0) p, tt)
each_only P only x (Some (item d (item e ds))) h p = absurd h.1

in_found : (found : Option Data) (one other : Data)
    → MatchOption found ⊥ (λ v. IsList (λ d e. d ≡ e) v (one ∷ []))
    → MatchOption found ⊥ (λ v. IsList (λ d e. d ≡ e) v (other ∷ [])) → one ≡ other
in_found None one other h k = absurd h
in_found (Some v) one other h k = same_items (as_array v) one other h k

same_only : (name : List ℕ) (d one other : Data) → IsOnlyItem name d one → IsOnlyItem name d other → one ≡ other
same_only name d one other h k = in_found (member_at name d) one other h k

only_there : {X : Type 0} (P : Data → X → Type 0) (name : List ℕ) (d : Data) (x : X)
    → IsPart (IsList P) name d (x ∷ []) → (only : Data) × IsOnlyItem name d only × P only x
only_there P name d x h =
    let (v, is, list) = part_there (IsList P) name d (x ∷ []) h in
    let (only, one, p) = one_item P x (as_array v) list in
    (only, part_from (IsList (λ d e. d ≡ e)) name d v (only ∷ []) is one, p)

only_from : {X : Type 0} (P : Data → X → Type 0) (name : List ℕ) (d only : Data) (x : X)
    → IsOnlyItem name d only → P only x → IsPart (IsList P) name d (x ∷ [])
only_from P name d only x h p =
    let (v, is, list) = part_there (IsList (λ d e. d ≡ e)) name d (only ∷ []) h in
    part_from (IsList P) name d v (x ∷ []) is (each_only P only x (as_array v) list p)

-- ---- kinds
pub clash : (kind : EntryKind) → IsOfKind kind (codes "dsse") (codes "0.0.1")
    → IsOfKind kind (codes "intoto") (codes "0.0.2") → ⊥
clash kind dsse intoto = let both : codes "dsse" ≡ codes "intoto" = sym dsse.kind_is ∙ intoto.kind_is in cc

pub by_dsse : {A B : Type 0} (kind : EntryKind) → IsOfKind kind (codes "dsse") (codes "0.0.1")
    → (IsOfKind kind (codes "dsse") (codes "0.0.1") × A) ⊎ (IsOfKind kind (codes "intoto") (codes "0.0.2") × B) → A
by_dsse kind is (inl h) = h.1
by_dsse kind is (inr h) = absurd (clash kind is h.0)

pub by_intoto : {A B : Type 0} (kind : EntryKind) → IsOfKind kind (codes "intoto") (codes "0.0.2")
    → (IsOfKind kind (codes "dsse") (codes "0.0.1") × A) ⊎ (IsOfKind kind (codes "intoto") (codes "0.0.2") × B) → B
by_intoto kind is (inl h) = absurd (clash kind h.0 is)
by_intoto kind is (inr h) = h.1

-- ---- one list of parts at most
abbrev of_these : Data → Option Data → Data → Parts
of_these h e s = record { hash = h; envelope = e; signature = s }

same_parts : (one other : Parts) → one.hash ≡ other.hash → one.envelope ≡ other.envelope
    → one.signature ≡ other.signature → one ≡ other
same_parts one other hash envelope signature =
    same one.hash other.hash one.envelope other.envelope one.signature other.signature hash envelope signature
  where
    same : (h i : Data) (e f : Option Data) (s t : Data) → h ≡ i → e ≡ f → s ≡ t → of_these h e s ≡ of_these i f t
    same h i e f s t hs es ss = rw (hs, es, ss) refl

dsse_same : (d : Data) (one other : Parts) → AreDsseParts d one → AreDsseParts d other → one ≡ other
dsse_same d one other h k =
    same_parts one other (same_Some one.hash other.hash (sym h.hash_is ∙ k.hash_is)) (h.envelope_is ∙ sym k.envelope_is)
    (same_only (codes "signatures") d one.signature other.signature h.signature_is k.signature_is)

intoto_same : (d : Data) (one other : Parts) → AreIntotoParts d one → AreIntotoParts d other → one ≡ other
intoto_same d one other h k =
    let content : h.content ≡ k.content = same_Some h.content k.content (sym h.content_is ∙ k.content_is) in
    let found = rw content at h.found_is in
    let hash = rw content at h.hash_is in
    let envelope : h.envelope ≡ k.envelope = same_Some h.envelope k.envelope (sym found ∙ k.found_is) in
    same_parts one other (same_Some one.hash other.hash (sym hash ∙ k.hash_is))
    (h.envelope_is ∙ (let same : Some h.envelope ≡ Some k.envelope = cc in same) ∙ sym k.envelope_is)
    (same_only (codes "signatures") k.envelope one.signature other.signature
    (subst (λ e. IsOnlyItem (codes "signatures") e one.signature) envelope h.signature_is) k.signature_is)

spec_same : (kind : EntryKind) (d : Data) (one other : Parts) → ArePartsOf kind d one → ArePartsOf kind d other → one ≡ other
spec_same kind d one other (inl h) k = dsse_same d one other h.1 (by_dsse kind h.0 k)
spec_same kind d one other (inr h) k = intoto_same d one other h.1 (by_intoto kind h.0 k)

found_same : (kind : EntryKind) (found : Option Data) (one other : Parts) → MatchOption found ⊥ (λ d. ArePartsOf kind d one)
    → MatchOption found ⊥ (λ d. ArePartsOf kind d other) → one ≡ other
found_same kind None one other h k = absurd h
found_same kind (Some d) one other h k = spec_same kind d one other h k

pub body_parts_same : (kind : EntryKind) (bytes : List ℕ) (one other : Parts) → BodyParts kind bytes one
    → BodyParts kind bytes other → one ≡ other
body_parts_same kind bytes one other (d, is, h) (e, also, k) =
    let same = subst (λ f. HasParts kind f one) (same_document bytes d e is also) h in
    found_same kind (member_at (codes "spec") e) one other same.parts_are k.parts_are

-- ---- what parts say of their body
dsse_says : (kind : EntryKind) (d : Data) (logged : Logged) (said : Parts) → IsOfKind kind (codes "dsse") (codes "0.0.1")
    → AreDsseParts d said → AllSay kind logged said → IsDsseBody d logged
dsse_says kind d logged said of_kind are says = record {
  payload = part_from IsPayloadHash (codes "payloadHash") d said.hash logged.payload.now are.hash_is says.payload;
  signatures = only_from IsDsseSignature (codes "signatures") d said.signature logged are.signature_is (record {
    signature = by_dsse kind of_kind says.signature;
    certificate = by_dsse kind of_kind says.certificate;
  });
}

typed : (found : Option Data) (envelope : Data) (type : List ℕ) → found ≡ Some envelope
    → MatchOption found (Unit {0}) (λ e. IsPart IsText (codes "payloadType") e type)
    → IsPart IsText (codes "payloadType") envelope type
typed found envelope type is h = subst (λ f. MatchOption f (Unit {0}) (λ e. IsPart IsText (codes "payloadType") e type)) is h

intoto_says : (kind : EntryKind) (d : Data) (logged : Logged) (said : Parts)
    → IsOfKind kind (codes "intoto") (codes "0.0.2") → AreIntotoParts d said → AllSay kind logged said → IsIntotoBody d logged
intoto_says kind d logged said of_kind are says =
    part_from IsIntotoContent (codes "content") d are.content logged are.content_is (record {
      payload = part_from IsPayloadHash (codes "payloadHash") are.content said.hash logged.payload.now are.hash_is says.payload;
      envelope = part_from IsIntotoEnvelope (codes "envelope") are.content are.envelope logged are.found_is (record {
        payload_type = typed said.envelope are.envelope logged.payload_type.now are.envelope_is says.payload_type;
        signatures = only_from IsIntotoSignature (codes "signatures") are.envelope said.signature logged are.signature_is
            (record {
              signature = by_intoto kind of_kind says.signature;
              certificate = by_intoto kind of_kind says.certificate;
            });
      });
    })

spec_says : (kind : EntryKind) (d : Data) (logged : Logged) (said : Parts) → ArePartsOf kind d said
    → AllSay kind logged said → IsSpec kind d logged
spec_says kind d logged said (inl h) says = inl (h.0, dsse_says kind d logged said h.0 h.1 says)
spec_says kind d logged said (inr h) says = inr (h.0, intoto_says kind d logged said h.0 h.1 says)

found_says : (kind : EntryKind) (found : Option Data) (logged : Logged) (said : Parts)
    → MatchOption found ⊥ (λ d. ArePartsOf kind d said) → AllSay kind logged said
    → MatchOption found ⊥ (λ d. IsSpec kind d logged)
found_says kind None logged said h says = h
found_says kind (Some d) logged said h says = spec_says kind d logged said h says

-- a body is about what all its parts say
pub says_all : (kind : EntryKind) (bytes : List ℕ) (logged : Logged) (said : Parts) → BodyParts kind bytes said
    → AllSay kind logged said → BodyAgrees kind bytes logged
says_all kind bytes logged said (d, is, h) says = (
  d,
  is,
  record {
    kind_is = h.kind_is;
    version_is = h.version_is;
    spec_is = found_says kind (member_at (codes "spec") d) logged said h.parts_are says;
  },
)

-- ---- and what a body is about, its parts say
abbrev Saying : EntryKind → Data → Logged → Type 0
Saying kind d logged = (said : Parts) × ArePartsOf kind d said × AllSay kind logged said

dsse_saying : (kind : EntryKind) (d : Data) (logged : Logged) → IsOfKind kind (codes "dsse") (codes "0.0.1")
    → IsDsseBody d logged → Saying kind d logged
dsse_saying kind d logged of_kind body =
    let (hash, hash_is, payload) = part_there IsPayloadHash (codes "payloadHash") d logged.payload.now body.payload in
    let (only, only_is, signed) = only_there IsDsseSignature (codes "signatures") d logged body.signatures in
    let said : Parts = record { hash = hash; envelope = None; signature = only } in (
      said,
      inl (of_kind, record { hash_is = hash_is; envelope_is = refl; signature_is = only_is }),
      record {
        payload = payload;
        payload_type = tt;
        signature = inl (of_kind, signed.signature);
        certificate = inl (of_kind, signed.certificate);
      },
    )

intoto_saying : (kind : EntryKind) (d : Data) (logged : Logged) → IsOfKind kind (codes "intoto") (codes "0.0.2")
    → IsIntotoBody d logged → Saying kind d logged
intoto_saying kind d logged of_kind body =
    let (content, content_is, inner) = part_there IsIntotoContent (codes "content") d logged body in
    let (hash, hash_is, payload) = part_there IsPayloadHash (codes "payloadHash") content logged.payload.now inner.payload in
    let (envelope, found_is, held) = part_there IsIntotoEnvelope (codes "envelope") content logged inner.envelope in
    let (only, only_is, signed) = only_there IsIntotoSignature (codes "signatures") envelope logged held.signatures in
    let said : Parts = record { hash = hash; envelope = Some envelope; signature = only } in (
      said,
      inr (
        of_kind,
        record {
          content = content;
          envelope = envelope;
          content_is = content_is;
          found_is = found_is;
          envelope_is = refl;
          hash_is = hash_is;
          signature_is = only_is;
        },
      ),
      record {
        payload = payload;
        payload_type = held.payload_type;
        signature = inr (of_kind, signed.signature);
        certificate = inr (of_kind, signed.certificate);
      },
    )

spec_saying : (kind : EntryKind) (d : Data) (logged : Logged) → IsSpec kind d logged → Saying kind d logged
spec_saying kind d logged (inl h) = dsse_saying kind d logged h.0 h.1
spec_saying kind d logged (inr h) = intoto_saying kind d logged h.0 h.1

pub agreeing : (kind : EntryKind) (bytes : List ℕ) (logged : Logged) → BodyAgrees kind bytes logged
    → (said : Parts) × BodyParts kind bytes said × AllSay kind logged said
agreeing kind bytes logged (d, is, body) =
    let (spec, spec_is, about) = part_there (IsSpec kind) (codes "spec") d logged body.spec_is in
    let (said, are, says) = spec_saying kind spec logged about in (
      said,
      (
        d,
        is,
        record {
          kind_is = body.kind_is;
          version_is = body.version_is;
          parts_are = part_from (ArePartsOf kind) (codes "spec") d spec said spec_is are;
        },
      ),
      says,
    )

-- ---- what a body misses
pub body_missed : (kind : EntryKind) (body : List ℕ) (logged : Logged) (part : BodyShortfall)
    → BodyMisses kind body logged part → ¬ BodyAgrees kind body logged
body_missed kind body logged parts.Form m agrees = let (said, is, says) = agreeing kind body logged agrees in m said is
body_missed kind body logged parts.Payload m agrees =
    let (said, is, says) = agreeing kind body logged agrees in m.1 (said, is, says.payload)
body_missed kind body logged parts.PayloadType m agrees =
    let (said, is, says) = agreeing kind body logged agrees in m.1 (said, is, says.payload_type)
body_missed kind body logged parts.Signature m agrees =
    let (said, is, says) = agreeing kind body logged agrees in m.2 (said, is, says.signature)
body_missed kind body logged parts.Certificate m agrees =
    let (said, is, says) = agreeing kind body logged agrees in m.3 (said, is, says.certificate)

-- what the parts do not say, no parts of the body say
not_said : (kind : EntryKind) (body : List ℕ) (said : Parts) (Says : Parts → Type 0) → BodyParts kind body said
    → ¬ Says said → ¬ BodySays kind body Says
not_said kind body said Says is none (other, also, says) =
    none (subst Says (body_parts_same kind body other said also is) says)

pub said_missed : (kind : EntryKind) (body : List ℕ) (logged : Logged) (said : Parts) (part : BodyShortfall)
    → BodyParts kind body said → SaidMisses kind logged said part → BodyMisses kind body logged part
said_missed kind body logged said parts.Form is m = absurd m
said_missed kind body logged said parts.Payload is m =
    ((said, is), not_said kind body said (SaysPayload logged) is m)
said_missed kind body logged said parts.PayloadType is m =
    ((said, is, m.0), not_said kind body said (SaysType logged) is m.1)
said_missed kind body logged said parts.Signature is m =
    ((said, is, m.0), (said, is, m.1), not_said kind body said (SaysSignature kind logged) is m.2)
said_missed kind body logged said parts.Certificate is m =
    ((said, is, m.0), (said, is, m.1), (said, is, m.2), not_said kind body said (SaysCertificate kind logged) is m.3)

pub said_told : (kind : EntryKind) (body : List ℕ) (logged : Logged) (said : Parts) (missed : Option BodyShortfall)
    → BodyParts kind body said → MatchOption missed (AllSay kind logged said) (SaidMisses kind logged said)
    → MatchOption missed (BodyAgrees kind body logged) (BodyMisses kind body logged)
said_told kind body logged said None is all = says_all kind body logged said is all
said_told kind body logged said (Some part) is m = said_missed kind body logged said part is m
