-- Delivered files are refused in one way at most, and accepted in one.
use Rattle.std.proofs.Common.{◌≡◌, ℕ, List, [], ◌∷◌, flat_map, zip, refl, sym, ap, subst, ◌∙◌}
use Rattle.std.proofs.Common.{⊎_elim}
use Rattle.std.specs.FinMap.{entries}
use Rattle.it_base.specs.Places.{IsFirst}
use Rattle.it_base.proofs.Firsts.{OneAt, OneFirst, one_more, one_none}
use Rattle.it_digest.specs.declared.compare.DigestSet.{DigestSet}
use Rattle.it_digest.proofs.ListedLemmas.{one_bad_line}
use Rattle.it_dsse.specs.Panel.{Panel}
use Rattle.it_docs.specs.LayoutPart.{LayoutPartOf}
use Rattle.it_docs.specs.declared.link.Link.{Link}
use Rattle.it_docs.specs.declared.rule.Side.{Side}
use Rattle.it_docs.specs.declared.rule.Side.TheVariants.{Products}
use Rattle.it_docs.specs.declared.step.Inspection.{Inspection}
use Rattle.it_docs.proofs.OnePart.{layout_part_one, policy_part_one}
use Rattle.it_docs.proofs.Same.{policy_same}
use Rattle.it_rules.specs.Item.{Links}
use Rattle.it_chain.specs.First.{FirstChainFailure as ChainFirst}
use Rattle.it_chain.specs.declared.refusal.RuleItem.TheVariants.{Inspection as of_inspection}
use Rattle.it_chain.specs.declared.refusal.RuleItem.TheVariants.{Deliver}
use Rattle.it_chain.proofs.Documents.{envelope_same}
use Rattle.it_chain.proofs.OneFirst.{fault_one, first_one}
use Rattle.it_docs.specs.declared.policy.Expectation.{Expectation}
use Rattle.it_prov.specs.Best.{IsBest}
use Rattle.it_prov.proofs.BestLevel.{best_is_one}
use Rattle.it_prov.proofs.OneFit.{fits_one}
use Rattle.it_verify.specs.Documents.{Documents, setting_of}
use Rattle.it_verify.specs.Provenance.{IsProvenanceLine}
use Rattle.it_verify.specs.Inspections.{RecordFails, InspectionFails, sides_of}
use Rattle.it_verify.specs.Owners.{OwnerLacks}
use Rattle.it_verify.specs.Provenance.{FileFails}
use Rattle.it_verify.specs.Refusals.{refusal_of, whole}
use Rattle.it_verify.specs.RefusedFor.{Stage, at_policy, at_sums, at_moment, at_files, at_envelope}
use Rattle.it_verify.specs.RefusedFor.{at_payload_type, at_owners, at_layout, at_links, at_records}
use Rattle.it_verify.specs.RefusedFor.{at_inspections, at_deliver, at_provenance, RefusedFor}
use Rattle.it_verify.specs.RefusedFor.{FailsAt, line_fault, stages}
use Rattle.it_verify.specs.Delivered.{DeliverFails, delivery}
use Rattle.it_verify.specs.Evidence.{Evidence, evidence_links}
use Rattle.it_verify.specs.Inspections.{recorded_in, inspection_rules_on}
use Rattle.it_verify.specs.Made.{IsMadeBy, verdict_of}
use Rattle.it_verify.specs.declared.inputs.Inputs.{Inputs}
use Rattle.it_report.specs.declared.refusal.Fault.TheVariants.{BadPolicy, BadLayout}
use Rattle.it_report.specs.declared.refusal.Fault.TheVariants.{RuleFailed, NoProvenance}
use Rattle.it_report.specs.declared.refusal.Refusal.{Refusal}
use Rattle.it_verify.proofs.OneReading.{read_alike, evident_alike}

one_each : {P R : Type 0} (At : P → R → Type 0) → ((p : P) → OneAt At p) → (ps : List P)
    → OneFirst At ps
one_each At one [] = one_none At
one_each At one (p ∷ ps) = one_more At p ps (one p) (λ _. one_each At one ps)

one_record : (inputs : Inputs) (inspection : Inspection) → OneAt (RecordFails inputs) inspection
one_record inputs inspection a b h k =
    ⊎_elim (λ x. ⊎_elim (λ y. x.1 ∙ sym y.1) (λ y. absurd (y.0 x.0)) k)
    (λ x. ⊎_elim (λ y. absurd (x.0 y.0)) (λ y. x.2 ∙ sym y.2) k) h

one_side : (links : Links) (judged : Side × (Inspection × Link))
    → OneAt (InspectionFails links) judged
one_side links (side, (inspection, link)) a b h k =
    let same = fault_one (inspection_rules_on side inspection) side (recorded_in link) links h.0 k.0
    h.1 k.1 h.2 k.2 in
    h.3 ∙ (λ i. whole (RuleFailed (of_inspection inspection.name) side (same.0 i) (same.1 i)))
    ∙ sym k.3

one_file : (panel : Panel) (inputs : Inputs) (expectations : List Expectation) (file : List ℕ
    × DigestSet) → OneAt (FileFails panel inputs expectations) file
one_file panel inputs expectations file a b h k =
    ⊎_elim (λ x. ⊎_elim (λ y. x.1 ∙ sym y.1) (λ y. absurd (x.0 y.0 y.2)) k)
    (λ x. ⊎_elim (λ y. absurd (y.0 x.0 x.2))
    (λ y.
    let expectation = fits_one expectations file.0 x.0 y.0 x.2 y.2 in
    let best_there = subst (λ e. IsBest panel e file.1 (IsProvenanceLine inputs) x.1) expectation
    x.4 in
    let best = best_is_one panel y.0 file.1 (IsProvenanceLine inputs) x.1 y.1 best_there y.4 in
    x.5 ∙ ap (λ level. whole (NoProvenance file.0 level)) best ∙ sym y.5) k) h

module _ (panel : Panel) (inputs : Inputs) where
  -- ---- place by place
  abbrev OneStands : Stage → Type 0
  OneStands = OneAt (FailsAt panel inputs)

  one_owner : OneStands at_owners
  one_owner a b h k =
      let policy = policy_same inputs.policy h.0 k.0 h.2 k.2 in
      let envelope = envelope_same inputs.layout h.1 k.1 h.3 k.3 in
      one_each (OwnerLacks panel k.1) (λ owner x y p q. p.1 ∙ sym q.1) (entries k.0.owners) a b
      (subst (λ e. IsFirst (OwnerLacks panel e) (entries k.0.owners) a) envelope
      (subst (λ p. IsFirst (OwnerLacks panel h.1) (entries p.owners) a) policy h.4)) k.4

  one_layout_part : OneStands at_layout
  one_layout_part a b h k =
      let envelope = envelope_same inputs.layout h.0 k.0 h.2 k.2 in
      h.4 ∙ ap (λ part. whole (BadLayout part))
      (layout_part_one k.0.payload h.1 k.1
      (subst (λ e. LayoutPartOf e.payload h.1) envelope h.3) k.3) ∙ sym k.4

  one_of_links : OneStands at_links
  one_of_links a b h k =
      let first = read_alike inputs
      (λ d. ChainFirst (setting_of panel d) inputs.depth d.layout inputs.links h.1) h.0 k.0 h.2
      k.2 h.3 in
      h.4 ∙ ap refusal_of (first_one (setting_of panel k.0) inputs.depth k.0.layout inputs.links h.1
      k.1 first k.3) ∙ sym k.4

  one_of_records : OneStands at_records
  one_of_records a b h k =
      one_each (RecordFails inputs) (one_record inputs) k.0.layout.inspections a b
      (read_alike inputs (λ d. IsFirst (RecordFails inputs) d.layout.inspections a) h.0 k.0 h.1
      k.1 h.2) k.2

  one_of_inspections : OneStands at_inspections
  one_of_inspections a b h k =
      one_each (InspectionFails (evidence_links k.1)) (one_side (evidence_links k.1))
      (flat_map sides_of (zip k.0.layout.inspections k.1.inspections)) a b
      (evident_alike panel inputs (λ d e. IsFirst (InspectionFails (evidence_links e))
      (flat_map sides_of (zip d.layout.inspections e.inspections)) a) h.0 k.0 h.1 k.1 h.2 k.2
      h.3 k.3 h.4) k.4

  one_delivery : OneStands at_deliver
  one_delivery a b h k =
      let fault = evident_alike panel inputs
      (λ d e. DeliverFails (evidence_links e) d.policy.deliver d.delivered a) h.0 k.0 h.1 k.1
      h.2 k.2 h.3 k.3 h.4 in
      let same = fault_one k.0.policy.deliver Products (delivery k.0.delivered) (evidence_links k.1)
      fault.0 k.4.0 fault.1 k.4.1 fault.2 k.4.2 in
      fault.3 ∙ (λ i. whole (RuleFailed Deliver Products (same.0 i) (same.1 i))) ∙ sym k.4.3

  one_of_files : OneStands at_provenance
  one_of_files a b h k =
      one_each (FileFails panel inputs k.0.policy.expectations)
      (one_file panel inputs k.0.policy.expectations) (entries k.0.delivered) a b
      (read_alike inputs (λ d. IsFirst (FileFails panel inputs d.policy.expectations)
      (entries d.delivered) a) h.0 k.0 h.1 k.1 h.2) k.2

  one_stands : (place : Stage) → OneStands place
  one_stands at_policy a b h k = h.2 ∙ ap (λ part. whole (BadPolicy part))
      (policy_part_one inputs.policy h.0 k.0 h.1 k.1) ∙ sym k.2
  one_stands at_sums a b h k = h.2 ∙ ap (λ bad. whole (line_fault bad))
      (one_bad_line inputs.sums inputs.sums512 h.0 k.0 h.1 k.1) ∙ sym k.2
  one_stands at_moment a b h k = h.1 ∙ sym k.1
  one_stands at_files a b h k = h.1 ∙ sym k.1
  one_stands at_envelope a b h k = h.1 ∙ sym k.1
  one_stands at_payload_type a b h k = h.3 ∙ sym k.3
  one_stands at_owners a b h k = one_owner a b h k
  one_stands at_layout a b h k = one_layout_part a b h k
  one_stands at_links a b h k = one_of_links a b h k
  one_stands at_records a b h k = one_of_records a b h k
  one_stands at_inspections a b h k = one_of_inspections a b h k
  one_stands at_deliver a b h k = one_delivery a b h k
  one_stands at_provenance a b h k = one_of_files a b h k

  pub refusal_one : (a b : Refusal) → RefusedFor panel inputs a → RefusedFor panel inputs b → a ≡ b
  refusal_one = one_each (FailsAt panel inputs) one_stands stages

  pub verdict_one : (documents other : Documents) (evidence given : Evidence)
      → IsMadeBy panel inputs documents evidence → IsMadeBy panel inputs other given
      → verdict_of documents evidence ≡ verdict_of other given
  verdict_one documents other evidence given h k =
      evident_alike panel inputs (λ d e. verdict_of documents evidence ≡ verdict_of d e) documents
      other evidence given h.read k.read h.is_evidence k.is_evidence refl
