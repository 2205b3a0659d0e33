use Rattle.std.proofs.Common.{◌≡◌, ◌∙◌, ap, rules, subst, true}
use Rattle.it_docs.specs.Layout.{LayoutOf}
use Rattle.it_dsse.specs.Envelope.{EnvelopeOf}
use Rattle.it_dsse.specs.declared.envelope.Envelope.{Envelope}
use Rattle.it_docs.specs.PayloadType.{in_toto_type}
use Rattle.it_chain.proofs.Documents.{envelope_same}
use Rattle.it_step_notes.specs.Signing.{IsSignedUnder}
use Rattle.it_step_notes.specs.Sublayout.{HoldsLayout}
use Rattle.it_step_notes.proofs.Outcomes.{ok_finds_alike}
use Rattle.it_step_notes.proofs.sublayout.signed_layout.Goals as goal

pub returns : goal.returns
returns g c =
    let panel = g.C.Checks.panel c.args.checks.now in
    let bytes = c.args.file.now.bytes in
    let envelope = c.in-Some.envelope.now in
    let reads : EnvelopeOf bytes envelope = rw c.in-Some.is at c.envelope.ensures in
    let type_is : envelope.payload_type ≡ in_toto_type = search rules in
    ok_finds_alike
    (λ below. (below.payload ≡ envelope.payload) × LayoutOf envelope.payload below.layout)
    (HoldsLayout panel c.args.layout.now c.args.id.now bytes)
    (λ below found. record {
      is_layout = record {
        envelope = envelope;
        is_envelope = reads;
        payload_is = found.0;
        reads = found.1;
      };
      type_is = type_is;
      signed = c.in_ok-signed.ensures.0 c.if-not-signed.false;
    })
    (λ below is.
    let same : is.is_layout.envelope ≡ envelope = envelope_same bytes is.is_layout.envelope envelope
    is.is_layout.is_envelope reads in (
      is.is_layout.payload_is ∙ ap (λ (e : Envelope). e.payload) same,
      subst (λ (e : Envelope). LayoutOf e.payload below.layout) same is.is_layout.reads,
    ))
    c.in_payload.result (rw c.as_slice.ensures at c.in_payload.ensures)

pub returns-in_default : goal.returns-in_default
returns-in_default g c = λ below is.
    (rw c.in_default.is at c.envelope.ensures) is.is_layout.envelope is.is_layout.is_envelope

pub returns-then-not-signed : goal.returns-then-not-signed
returns-then-not-signed g c = λ below is.
    let panel = g.C.Checks.panel c.args.checks.now in
    let bytes = c.args.file.now.bytes in
    let envelope = c.in-Some.envelope.now in
    let reads : EnvelopeOf bytes envelope = rw c.in-Some.is at c.envelope.ensures in
    let same : is.is_layout.envelope ≡ envelope = envelope_same bytes is.is_layout.envelope envelope
    is.is_layout.is_envelope reads in
    let signed = c.in_ok-signed.ensures.1
    (subst (λ (e : Envelope). IsSignedUnder panel c.args.layout.now e c.args.id.now) same is.signed) in
    cc (signed, c.if-not-signed.true)
