-- The payloads that the deciding functions list for an id are those that count.
use Rattle.std.proofs.Common.{◌≡◌, ℕ, List, Bool, true, false, Option, Some, None, option_map}
use Rattle.std.proofs.Common.{if◌then◌else◌, filter, filter_map, bytes_eq, codes, Contains, refl}
use Rattle.std.proofs.Common.{sym, ap, subst, ◌∙◌}
use Rattle.std.specs.FinMap.{get}
use Rattle.std.proofs.lemmas.Bool.{true_from_ne_false}
use Rattle.std.proofs.lemmas.Option.{same_Some}
use Rattle.std.proofs.lemmas.Slice.Eq.{bytes_eq-Decides}
use Rattle.it_base.specs.Finds.{Finds}
use Rattle.it_dsse.specs.Panel.{KeyNumber}
use Rattle.it_dsse.specs.Envelope.{EnvelopeOf}
use Rattle.it_dsse.specs.Signed.{message_of}
use Rattle.it_dsse.specs.Vouched.{is_vouched}
use Rattle.it_dsse.specs.declared.envelope.Envelope.{Envelope}
use Rattle.it_dsse.specs.declared.key_object.KeyObject.{KeyObject}
use Rattle.it_dsse.proofs.Vouching.{signed_found, not_signed}
use Rattle.it_docs.specs.Layout.{LayoutOf}
use Rattle.it_docs.specs.Link.{LinkOf}
use Rattle.it_docs.specs.declared.layout.Layout.{Layout}
use Rattle.it_docs.specs.declared.step.Step.{Step}
use Rattle.it_docs.specs.declared.link.Link.{Link}
use Rattle.it_docs.proofs.Same.{layout_same, link_same}
use Rattle.it_chain.specs.Answer.{body_of, link_or, envelopes_for, payloads_for}
use Rattle.it_chain.specs.Contents.{Contents, files_of}
use Rattle.it_chain.specs.CountedBodies.{Setting, Body, of_link, of_layout, BodyOf, Counted}
use Rattle.it_chain.specs.Lower.{Lower, AnswersRight}
use Rattle.it_chain.specs.declared.bundle.File.{File}
use Rattle.it_chain.proofs.Documents.{envelope_same, link_or_layout}
use Rattle.it_chain.proofs.Members.{in_filter, of_filter, in_filter_map, of_filter_map}

-- ---- what a reader finds
finds_it : {X : Type 0} (P : X → Type 0) (found : Option X) (x : X)
    → ((a b : X) → P a → P b → a ≡ b) → Finds P found → P x → found ≡ Some x
finds_it P None x same h k = absurd (h x k)
finds_it P (Some y) x same h k = ap Some (same y x h k)

finds_none : {X : Type 0} (P : X → Type 0) (found : Option X) → Finds P found → ((x : X) → ¬ P x)
    → found ≡ None
finds_none P None h none = refl
finds_none P (Some y) h none = absurd (none y h)

module _ (lower : Lower) (right : AnswersRight lower) (setting : Setting) (step : Step) where
  -- ---- what a payload is for the step
  named_link : (link : Link) (other : Option Body) → link.name ≡ step.name
      → link_or step (Some link) other ≡ Some (of_link link)
  named_link link other same = ap (λ b. if b then Some (of_link link) else other)
      ((bytes_eq-Decides link.name step.name).1 same)

  body_listed : (payload : List ℕ) (body : Body) → BodyOf step.name payload body
      → body_of lower setting step payload ≡ Some body
  body_listed payload (of_link link) h =
      ap (λ o. link_or step o (option_map of_layout (lower.layout_of payload)))
      (finds_it (LinkOf payload) (lower.link_of payload) link (link_same payload)
      (right.link payload) h.0)
      ∙ named_link link (option_map of_layout (lower.layout_of payload)) h.1
  body_listed payload (of_layout layout) h =
      ap (λ o. link_or step o (option_map of_layout (lower.layout_of payload)))
      (finds_none (LinkOf payload) (lower.link_of payload) (right.link payload)
      (λ link k. link_or_layout payload link layout k h))
      ∙ ap (option_map of_layout) (finds_it (LayoutOf payload) (lower.layout_of payload) layout
      (layout_same payload) (right.layout payload) h)

  read_layout : (payload : List ℕ) (body : Body) (layout : Option Layout)
      → Finds (LayoutOf payload) layout → option_map of_layout layout ≡ Some body → (l : Layout)
      × LayoutOf payload l × (of_layout l ≡ body)
  read_layout payload body None h e = cc
  read_layout payload body (Some l) h e = (l, h, same_Some (of_layout l) body e)

  read_link : (payload : List ℕ) (body : Body) (link : Link) (layout : Option Layout) (named : Bool)
      → bytes_eq link.name step.name ≡ named → LinkOf payload link → Finds (LayoutOf payload) layout
      → (if named then Some (of_link link) else option_map of_layout layout) ≡ Some body
      → BodyOf step.name payload body
  read_link payload body link layout true named h k e =
      subst (BodyOf step.name payload) (same_Some (of_link link) body e)
      (h, (bytes_eq-Decides link.name step.name).0 named)
  read_link payload body link layout false named h k e = let l =
      read_layout payload body layout k e in absurd (link_or_layout payload link l.0 h l.1)

  read_body : (payload : List ℕ) (body : Body) (link : Option Link) (layout : Option Layout)
      → Finds (LinkOf payload) link → Finds (LayoutOf payload) layout
      → link_or step link (option_map of_layout layout) ≡ Some body → BodyOf step.name payload body
  read_body payload body None layout h k e = let l = read_layout payload body layout k e in
      subst (BodyOf step.name payload) l.2 l.1
  read_body payload body (Some link) layout h k e =
      read_link payload body link layout (bytes_eq link.name step.name) refl h k e

  body_reads : (payload : List ℕ) (body : Body) → body_of lower setting step payload ≡ Some body
      → BodyOf step.name payload body
  body_reads payload body = read_body payload body (lower.link_of payload) (lower.layout_of payload)
      (right.link payload) (right.layout payload)

  -- ---- the tests of files and envelopes
  abbrev is_claimed : File → Bool
  is_claimed file = lower.is_claimed step.name file.name

  abbrev read : File → Option Envelope
  read file = lower.envelope_of file.bytes

  abbrev has_type : Envelope → Bool
  has_type envelope = bytes_eq envelope.payload_type (codes "application/vnd.in-toto+json")

  abbrev is_signed : List ℕ → KeyNumber → Envelope → Bool
  is_signed id key envelope = is_vouched setting.panel id key (message_of envelope)
      envelope.signatures

  abbrev with_body : Envelope → Option (List ℕ × Body)
  with_body envelope = option_map (λ body. (envelope.payload, body))
      (body_of lower setting step envelope.payload)

  paired : (payload : List ℕ) (found : Option Body) (p : List ℕ × Body)
      → option_map (λ body. (payload, body)) found ≡ Some p → (payload ≡ p.0) × (found ≡ Some p.1)
  paired payload None p e = cc
  paired payload (Some body) p e = let same = same_Some (payload, body) p e in
      (ap (λ q. q.0) same, ap (λ q. Some (q.1)) same)

  module _ (layout : Layout) (bundle : Contents) where
    -- what counts is listed
    pub listed : (id payload : List ℕ) (c : Counted setting layout bundle step id payload)
        → Contains (payloads_for lower setting step bundle id c.key) (payload, c.body)
    listed id payload c =
        let claimed : Contains (filter is_claimed (files_of bundle)) c.file =
        in_filter is_claimed (files_of bundle) c.file
        ((right.claimed step.name c.file.name).1 c.claimed) c.stands in
        let is : read c.file ≡ Some c.envelope =
        finds_it (EnvelopeOf c.file.bytes) (read c.file) c.envelope (envelope_same c.file.bytes)
        (right.envelope c.file.bytes) c.is_envelope in
        let among : Contains (envelopes_for lower setting step bundle) c.envelope =
        in_filter has_type (filter_map read (filter is_claimed (files_of bundle))) c.envelope
        ((bytes_eq-Decides _ _).1 c.type_is)
        (in_filter_map read (filter is_claimed (files_of bundle)) c.file c.envelope is claimed) in
        let vouched : is_signed id c.key c.envelope ≡ true =
        true_from_ne_false (is_signed id c.key c.envelope)
        (λ e. not_signed setting.panel c.envelope id c.object c.key (sym c.signed.key) e c.key
        c.signed) in
        let body : with_body c.envelope ≡ Some (payload, c.body) =
        ap (option_map (λ body. (c.envelope.payload, body)))
        (body_listed c.envelope.payload c.body
        (subst (λ p. BodyOf step.name p c.body) (sym c.payload_is) c.reads))
        ∙ ap (λ p. Some (p, c.body)) c.payload_is in
        in_filter_map with_body
        (filter (is_signed id c.key) (envelopes_for lower setting step bundle)) c.envelope
        (payload, c.body) body
        (in_filter (is_signed id c.key) (envelopes_for lower setting step bundle) c.envelope vouched
        among)

    -- what is listed counts
    pub counts : (id payload : List ℕ) (object : KeyObject) (key : KeyNumber) (body : Body)
        → Contains step.pubkeys id → get layout.keys id ≡ Some object
        → setting.panel.key_of id object ≡ Some key
        → Contains (payloads_for lower setting step bundle id key) (payload, body)
        → (c : Counted setting layout bundle step id payload) × (c.key ≡ key)
        × BodyOf step.name payload body
    counts id payload object key body pubkey known numbered c =
        let made = of_filter_map with_body
        (filter (is_signed id key) (envelopes_for lower setting step bundle))
        (payload, body) c in
        let signed = of_filter (is_signed id key) (envelopes_for lower setting step bundle) made.0
        made.2 in
        let typed = of_filter has_type (filter_map read (filter is_claimed (files_of bundle)))
        made.0 signed.1 in
        let file = of_filter_map read (filter is_claimed (files_of bundle)) made.0 typed.1 in
        let claimed = of_filter is_claimed (files_of bundle) file.0 file.2 in
        let pair = paired made.0.payload (body_of lower setting step made.0.payload)
        (payload, body) made.1 in
        let reads : BodyOf step.name payload body = subst (λ p. BodyOf step.name p body) pair.0
        (body_reads made.0.payload body pair.1) in (
          record {
            file = file.0;
            envelope = made.0;
            object = object;
            key = key;
            body = body;
            stands = claimed.1;
            claimed = (right.claimed step.name file.0.name).0 claimed.0;
            is_envelope = subst (Finds (EnvelopeOf file.0.bytes)) file.1
                (right.envelope file.0.bytes);
            type_is = (bytes_eq-Decides _ _).0 typed.0;
            payload_is = pair.0;
            listed = pubkey;
            known = known;
            signed = signed_found setting.panel made.0 id object key (sym numbered) signed.0;
            reads = reads;
          },
          refl,
          reads,
        )
