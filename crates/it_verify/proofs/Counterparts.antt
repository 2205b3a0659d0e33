-- What other inputs read as, and what stands at their places, where all is the same but the links,
-- the provenance and the signatures of the layout.
use Rattle.std.proofs.Common.{◌≡◌, ◌↔◌, ℕ, List, Contains, Some, inl, inr, refl, sym, ap, subst}
use Rattle.std.proofs.Common.{◌∙◌, ⊎_elim}
use Rattle.std.specs.Prelude.{⊤}
use Rattle.std.specs.FinMap.{empty, entries, get}
use Rattle.it_base.proofs.Firsts.{first_alike}
use Rattle.it_digest.specs.Artifacts.{ArtifactMap}
use Rattle.it_digest.specs.Listed.{AreListed, IsFirstBadIn}
use Rattle.it_digest.specs.declared.listed.BadLine.{BadLine}
use Rattle.it_dsse.specs.Panel.{Panel}
use Rattle.it_dsse.specs.Envelope.{EnvelopeOf}
use Rattle.it_dsse.specs.Signed.{IsSigner}
use Rattle.it_dsse.specs.declared.envelope.Envelope.{Envelope}
use Rattle.it_dsse.specs.declared.key_object.KeyObject.{KeyObject}
use Rattle.it_docs.specs.Layout.{LayoutOf}
use Rattle.it_docs.specs.LayoutPart.{LayoutPartOf}
use Rattle.it_docs.specs.Moment.{MomentOf}
use Rattle.it_docs.specs.Policy.{PolicyOf}
use Rattle.it_docs.specs.PolicyPart.{PolicyPartOf}
use Rattle.it_docs.specs.declared.link.Link.{Link}
use Rattle.it_docs.specs.declared.policy.Policy.{Policy}
use Rattle.it_docs.specs.declared.step.Inspection.{Inspection}
use Rattle.it_chain.specs.Alike.{Comparing, any_two}
use Rattle.it_chain.specs.CountedBodies.{Setting}
use Rattle.it_chain.proofs.Documents.{envelope_same}
use Rattle.it_chain.proofs.Entries.{entry_known}
use Rattle.it_verify.specs.InputsAlike.{Compare, SameSigned}
use Rattle.it_verify.specs.Documents.{Documents, ReadAs}
use Rattle.it_verify.specs.Inspections.{RecordFails}
use Rattle.it_verify.specs.Owners.{OwnerLacks}
use Rattle.it_verify.specs.RefusedFor.{Stage, at_policy, at_sums, at_moment, at_files, at_envelope}
use Rattle.it_verify.specs.RefusedFor.{at_payload_type, at_owners, at_layout, at_links, at_records}
use Rattle.it_verify.specs.RefusedFor.{at_inspections, at_deliver, at_provenance, FailsAt}
use Rattle.it_verify.specs.Inspections.{HasRecorded}
use Rattle.it_verify.specs.declared.inputs.Inputs.{Inputs}
use Rattle.it_report.specs.declared.refusal.Refusal.{Refusal}

-- inputs that compare, whatever their links and their provenance
abbrev pub Share : Panel → Inputs → Inputs → Type 0
Share = Compare (λ setting depth. any_two) (λ here there. ⊤)

pub share_of : (Bundles : Setting → ℕ → Comparing) (Compares : Type 0 → Type 0 → Type 0)
    (panel : Panel) (a b : Inputs) → Compare Bundles Compares panel a b → Share panel a b
share_of Bundles Compares panel a b h = record {
  policy = h.policy;
  sums = h.sums;
  sums512 = h.sums512;
  moment = h.moment;
  depth = h.depth;
  layout = h.layout;
  records = h.records;
  bundles = λ documents read. tt;
  provenance = λ documents id payload object read key. tt;
}

signed_back : (panel : Panel) (a b : Inputs) → a.policy ≡ b.policy → SameSigned panel a b
    → SameSigned panel b a
signed_back panel a b policy s = record {
  envelope = s.another;
  another = s.envelope;
  first = s.second;
  second = s.first;
  payload_type = sym s.payload_type;
  payload = sym s.payload;
  owners = λ p id object is known. let signs =
      s.owners p id object (subst (λ bytes. PolicyOf bytes p) (sym policy) is) known in
      (signs.1, signs.0);
}

pub share_back : (panel : Panel) (a b : Inputs) → Share panel a b → Share panel b a
share_back panel a b h = record {
  policy = sym h.policy;
  sums = sym h.sums;
  sums512 = sym h.sums512;
  moment = sym h.moment;
  depth = sym h.depth;
  layout = ⊎_elim (λ same. inl (sym same)) (λ s. inr (signed_back panel a b h.policy s)) h.layout;
  records = λ name. sym (h.records name);
  bundles = λ documents read. tt;
  provenance = λ documents id payload object read key. tt;
}

-- ---- the documents
-- an envelope that the other layout reads as: of the same type and payload, which the same owners
-- signed
record Counterpart (panel : Panel) (a b : Inputs) (envelope : Envelope) : Type 0 where
  other : Envelope
  reads : EnvelopeOf b.layout other
  payload_type : envelope.payload_type ≡ other.payload_type
  payload : envelope.payload ≡ other.payload
  owners : (policy : Policy) (id : List ℕ) (object : KeyObject) → PolicyOf a.policy policy
      → get policy.owners id ≡ Some object → IsSigner panel envelope object id
      ↔ IsSigner panel other object id

same_counterpart : (panel : Panel) (a b : Inputs) (envelope : Envelope)
    → EnvelopeOf a.layout envelope → a.layout ≡ b.layout → Counterpart panel a b envelope
same_counterpart panel a b envelope is same = record {
  other = envelope;
  reads = subst (λ bytes. EnvelopeOf bytes envelope) same is;
  payload_type = refl;
  payload = refl;
  owners = λ policy id object p known. (λ x. x, λ x. x);
}

signed_counterpart : (panel : Panel) (a b : Inputs) (envelope : Envelope)
    → EnvelopeOf a.layout envelope → SameSigned panel a b → Counterpart panel a b envelope
signed_counterpart panel a b envelope is s =
    let same : s.envelope ≡ envelope = envelope_same a.layout s.envelope envelope s.first is in
    record {
      other = s.another;
      reads = s.second;
      payload_type = ap (λ (e : Envelope). e.payload_type) (sym same) ∙ s.payload_type;
      payload = ap (λ (e : Envelope). e.payload) (sym same) ∙ s.payload;
      owners = λ policy id object p known. subst (λ e. IsSigner panel e object id
          ↔ IsSigner panel s.another object id) same (s.owners policy id object p known);
    }

-- the documents with another envelope of the layout
abbrev pub with_envelope : Documents → Envelope → Documents
with_envelope documents envelope = record documents { envelope = envelope }

-- inputs read as the documents, but for the signatures of the layout, which the same owners signed
pub record Reread (panel : Panel) (inputs : Inputs) (documents : Documents) : Type 0 where
  pub other : Envelope
  pub read : ReadAs inputs (with_envelope documents other)
  pub owners : (id : List ℕ) (object : KeyObject) → get documents.policy.owners id ≡ Some object
      → IsSigner panel documents.envelope object id ↔ IsSigner panel other object id

module _ (panel : Panel) (a b : Inputs) (h : Share panel a b) where
  listed_there : (files : ArtifactMap) → AreListed a.sums a.sums512 files
      → AreListed b.sums b.sums512 files
  listed_there files is = subst (λ bytes. AreListed b.sums bytes files) h.sums512
      (subst (λ bytes. AreListed bytes a.sums512 files) h.sums is)

  bad_there : (bad : BadLine) → IsFirstBadIn a.sums a.sums512 bad
      → IsFirstBadIn b.sums b.sums512 bad
  bad_there bad is = subst (λ bytes. IsFirstBadIn b.sums bytes bad) h.sums512
      (subst (λ bytes. IsFirstBadIn bytes a.sums512 bad) h.sums is)

  counterpart : (envelope : Envelope) → EnvelopeOf a.layout envelope
      → Counterpart panel a b envelope
  counterpart envelope is = ⊎_elim (same_counterpart panel a b envelope is)
      (signed_counterpart panel a b envelope is) h.layout

  pub reread : (documents : Documents) → ReadAs a documents → Reread panel b documents
  reread documents read =
      let part = counterpart documents.envelope read.envelope in
      record {
        other = part.other;
        read = record {
          policy = subst (λ bytes. PolicyOf bytes documents.policy) h.policy read.policy;
          delivered = listed_there documents.delivered read.delivered;
          moment = subst (λ text. MomentOf text documents.moment) h.moment read.moment;
          envelope = part.reads;
          payload_type = sym part.payload_type ∙ read.payload_type;
          layout = subst (λ bytes. LayoutOf bytes documents.layout) part.payload read.layout;
        };
        owners = λ id object known. part.owners documents.policy id object read.policy known;
      }

  pub recorded_there : (inspection : Inspection) (link : Link) → HasRecorded a inspection link
      → HasRecorded b inspection link
  recorded_there inspection link x = record {
    bytes = x.bytes;
    is_first = sym (h.records inspection.name) ∙ x.is_first;
    reads =
        x.reads;
    name_is = x.name_is;
  }

-- ---- the places that speak of neither links nor provenance
module _ (panel : Panel) (a b : Inputs) (h : Share panel a b) where
  record_fails_there : (inspection : Inspection) (refusal : Refusal)
      → RecordFails a inspection refusal → RecordFails b inspection refusal
  record_fails_there inspection refusal =
      ⊎_elim (λ x. inl (sym (h.records inspection.name) ∙ x.0, x.1))
      (λ x. inr (
        λ none. x.0 (h.records inspection.name ∙ none),
        λ link y. x.1 link (recorded_there panel b a (share_back panel a b h) inspection link y),
        x.2,
      ))

-- what stands at a place of inputs does so in others
abbrev pub Carried : Panel → Inputs → Inputs → Stage → Type 0
Carried panel a b place = (refusal : Refusal) → FailsAt panel a place refusal
    → FailsAt panel b place refusal

module _ (panel : Panel) (a b : Inputs) (h : Share panel a b) where
  back : Share panel b a
  back = share_back panel a b h

  owners_there : Carried panel a b at_owners
  owners_there refusal x =
      let part = counterpart panel a b h x.1 x.3 in
      let sign = λ (owner : List ℕ × KeyObject) (c : Contains (entries x.0.owners) owner).
      part.owners x.0 owner.0 owner.1 x.2 (entry_known x.0.owners owner c) in (
        x.0,
        part.other,
        subst (λ bytes. PolicyOf bytes x.0) h.policy x.2,
        part.reads,
        first_alike (OwnerLacks panel x.1) (OwnerLacks panel part.other) (entries x.0.owners)
            (λ owner c r lacks. (λ signs. lacks.0 ((sign owner c).1 signs), lacks.1))
            (λ owner c r lacks. (λ signs. lacks.0 ((sign owner c).0 signs), lacks.1)) refusal x.4,
      )

  records_there : Carried panel a b at_records
  records_there refusal x =
      let again = reread panel a b h x.0 x.1 in (
        with_envelope x.0 again.other,
        again.read,
        first_alike (RecordFails a) (RecordFails b) x.0.layout.inspections
            (λ inspection c. record_fails_there panel a b h inspection)
            (λ inspection c. record_fails_there panel b a back inspection) refusal x.2,
      )

  layout_part_there : Carried panel a b at_layout
  layout_part_there refusal x =
      let part = counterpart panel a b h x.0 x.2 in
      (part.other, x.1, part.reads, subst (λ bytes. LayoutPartOf bytes x.1) part.payload x.3, x.4)

  type_there : Carried panel a b at_payload_type
  type_there refusal x =
      let part = counterpart panel a b h x.0 x.1 in
      (part.other, part.reads, λ same. x.2 (part.payload_type ∙ same), x.3)

  no_envelope_there : Carried panel a b at_envelope
  no_envelope_there refusal x = (
    λ envelope is. let part = counterpart panel b a back envelope is in
        x.0 part.other part.reads,
    x.1,
  )

  -- what is so of each place of which that is so, and of the places that speak of links or
  -- provenance
  module _ (F : Stage → Type 0) (carried : (place : Stage) → Carried panel a b place
      → F place) where
    pub at_each : F at_links → F at_inspections → F at_deliver → F at_provenance → (place : Stage)
        → F place
    at_each links inspections deliver provenance at_policy =
        carried at_policy (λ refusal x. (
          x.0,
          subst (λ bytes. PolicyPartOf bytes x.0) h.policy x.1,
          x.2,
        ))
    at_each links inspections deliver provenance at_sums =
        carried at_sums (λ refusal x. (
          x.0,
          bad_there panel a b h x.0 x.1,
          x.2,
        ))
    at_each links inspections deliver provenance at_moment =
        carried at_moment
        (λ refusal x. (
          λ moment is. x.0 moment
              (subst (λ text. MomentOf text moment) (sym h.moment) is),
          x.1,
        ))
    at_each links inspections deliver provenance at_files =
        carried at_files (λ refusal x. (listed_there panel a b h empty x.0, x.1))
    at_each links inspections deliver provenance at_envelope = carried at_envelope no_envelope_there
    at_each links inspections deliver provenance at_payload_type =
        carried at_payload_type type_there
    at_each links inspections deliver provenance at_owners = carried at_owners owners_there
    at_each links inspections deliver provenance at_layout = carried at_layout layout_part_there
    at_each links inspections deliver provenance at_links = links
    at_each links inspections deliver provenance at_records = carried at_records records_there
    at_each links inspections deliver provenance at_inspections = inspections
    at_each links inspections deliver provenance at_deliver = deliver
    at_each links inspections deliver provenance at_provenance = provenance
