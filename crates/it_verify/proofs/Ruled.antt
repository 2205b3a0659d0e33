-- The rules of the inspections and those of the delivery hold, or their places have something.
use Rattle.std.proofs.Common.{◌⊎◌, ℕ, List, [], ◌∷◌, flat_map, zip, All, Option, Some, None}
use Rattle.std.proofs.Common.{MatchOption, inl, inr, refl}
use Rattle.std.specs.List.{AllZip}
use Rattle.std.proofs.lemmas.List.Elements.{All-head, All-tail}
use Rattle.it_base.proofs.Firsts.{first_or_all}
use Rattle.it_dsse.specs.Panel.{Panel}
use Rattle.it_docs.specs.declared.link.Link.{Link}
use Rattle.it_docs.specs.declared.rule.Side.{Side}
use Rattle.it_docs.specs.declared.rule.Side.TheVariants.{Materials, Products}
use Rattle.it_docs.specs.declared.step.Inspection.{Inspection}
use Rattle.it_rules.specs.Item.{Links}
use Rattle.it_rules.specs.Rules.{IsFirstFault, RulesHold}
use Rattle.it_rules.proofs.FaultDecided.{fault_of, fault_of-is}
use Rattle.it_chain.specs.declared.refusal.RuleItem.TheVariants.{Inspection as of_inspection}
use Rattle.it_chain.specs.declared.refusal.RuleItem.TheVariants.{Deliver}
use Rattle.it_verify.specs.Documents.{Documents, ReadAs}
use Rattle.it_verify.specs.Inspections.{InspectionFails, sides_of}
use Rattle.it_verify.specs.Refusals.{whole}
use Rattle.it_verify.specs.RefusedFor.{at_inspections, at_deliver}
use Rattle.it_verify.specs.Delivered.{delivery}
use Rattle.it_verify.specs.Evidence.{Evidence, IsEvidence, evidence_links}
use Rattle.it_verify.specs.Inspections.{HasRecorded, InspectionRulesHold, recorded_in}
use Rattle.it_verify.specs.Inspections.{inspection_rules_on}
use Rattle.it_verify.specs.declared.inputs.Inputs.{Inputs}
use Rattle.it_report.specs.declared.refusal.Fault.TheVariants.{RuleFailed}
use Rattle.it_report.specs.declared.refusal.Refusal.{Refusal}
use Rattle.it_verify.proofs.Documented.{StandsOr}
use Rattle.it_verify.proofs.EvidenceClear.{clear_deliver, clear_inspections}

-- ---- the rules of one inspection on one side
module _ (links : Links) where
  abbrev SideHolds : Side × (Inspection × Link) → Type 0
  SideHolds (side, (inspection, link)) = RulesHold (inspection_rules_on side inspection) side
      (recorded_in link) links

  side_or_fails : (judged : Side × (Inspection × Link))
      → ((refusal : Refusal) × InspectionFails links judged refusal) ⊎ SideHolds judged
  side_or_fails (side, (inspection, link)) =
      go (fault_of (inspection_rules_on side inspection) side (recorded_in link) links)
      (fault_of-is side (recorded_in link) links (inspection_rules_on side inspection))
    where
      go : (fault : Option (ℕ × List ℕ))
          → MatchOption fault (RulesHold (inspection_rules_on side inspection) side
          (recorded_in link) links)
          (λ f. IsFirstFault (inspection_rules_on side inspection) side (recorded_in link) links
          f.0 f.1)
          → ((refusal : Refusal) × InspectionFails links (side, (inspection, link)) refusal)
          ⊎ SideHolds (side, (inspection, link))
      go None h = inr h
      go (Some f) h = inl (
        whole (RuleFailed (of_inspection inspection.name) side f.0 f.1),
        (f.0, f.1, h, refl),
      )

  side_apart : (judged : Side × (Inspection × Link)) → SideHolds judged → (refusal : Refusal)
      → ¬ InspectionFails links judged refusal
  side_apart (side, (inspection, link)) holds refusal x = x.2.fails (holds x.0)

  both_sides : (inspections : List Inspection) (given : List Link) (Has : Inspection → Link
      → Type 0) → AllZip Has inspections given
      → All SideHolds (flat_map sides_of (zip inspections given))
      → AllZip (InspectionRulesHold links) inspections given
  both_sides [] [] Has h all = tt
  both_sides [] (l ∷ ls) Has h all = absurd h
  both_sides (i ∷ is) [] Has h all = absurd h
  both_sides (i ∷ is) (l ∷ ls) Has h all =
      let rest = flat_map sides_of (zip is ls) in
      let later = All-tail SideHolds (Materials, (i, l)) ((Products, (i, l)) ∷ rest) all in (
        by_side (All-head SideHolds (Materials, (i, l)) ((Products, (i, l)) ∷ rest) all)
            (All-head SideHolds (Products, (i, l)) rest later),
        both_sides is ls Has h.1
            (All-tail SideHolds (Products, (i, l)) rest later),
      )
    where
      by_side : SideHolds (Materials, (i, l)) → SideHolds (Products, (i, l))
          → InspectionRulesHold links i l
      by_side m p Materials = m
      by_side m p Products = p

-- ---- the places
module _ (panel : Panel) (inputs : Inputs) (documents : Documents) (read : ReadAs inputs documents)
    (evidence : Evidence) (is_evidence : IsEvidence panel inputs documents evidence) where
  abbrev judged_in : Documents → Evidence → List (Side × (Inspection × Link))
  judged_in d e = flat_map sides_of (zip d.layout.inspections e.inspections)

  pub inspections_or : StandsOr panel inputs at_inspections
      (AllZip (InspectionRulesHold (evidence_links evidence)) documents.layout.inspections
      evidence.inspections)
  inspections_or = elim (first_or_all (InspectionFails (evidence_links evidence))
      (SideHolds (evidence_links evidence)) (side_apart (evidence_links evidence))
      (side_or_fails (evidence_links evidence)) (judged_in documents evidence)) [
        | inl found ↦ inl (found.0, (documents, evidence, read, is_evidence, found.1))
        | inr goods ↦
            let rules = both_sides (evidence_links evidence) documents.layout.inspections
            evidence.inspections (HasRecorded inputs) is_evidence.inspections goods in
            inr (rules, clear_inspections panel inputs documents read evidence is_evidence rules)
      ]

  abbrev DeliveryHolds : Type 0
  DeliveryHolds = RulesHold documents.policy.deliver Products (delivery documents.delivered)
      (evidence_links evidence)

  abbrev DeliveryFails : Documents → Evidence → ℕ → List ℕ → Type 0
  DeliveryFails d e index path = IsFirstFault d.policy.deliver Products (delivery d.delivered)
      (evidence_links e) index path

  pub deliver_or : StandsOr panel inputs at_deliver DeliveryHolds
  deliver_or = go (fault_of documents.policy.deliver Products (delivery documents.delivered)
      (evidence_links evidence)) (fault_of-is Products (delivery documents.delivered)
      (evidence_links evidence) documents.policy.deliver)
    where
      go : (fault : Option (ℕ × List ℕ)) → MatchOption fault DeliveryHolds
          (λ f. DeliveryFails documents evidence f.0 f.1)
          → StandsOr panel inputs at_deliver DeliveryHolds
      go (Some f) h = inl (
        whole (RuleFailed Deliver Products f.0 f.1),
        (documents, evidence, read, is_evidence, (f.0, f.1, h, refl)),
      )
      go None h = inr (h, clear_deliver panel inputs documents read evidence is_evidence h)
