-- Nothing stands at the place of the links, the records, the rules or the provenance where these
-- are as they must be.
use Rattle.std.proofs.Common.{◌≡◌, ℕ, List, [], ◌∷◌, flat_map, zip, Contains, Some, None, Option}
use Rattle.std.proofs.Common.{sym, subst, ◌∙◌, ⊎_elim}
use Rattle.std.specs.List.{AllZip}
use Rattle.std.specs.FinMap.{entries, get}
use Rattle.it_digest.specs.declared.compare.DigestSet.{DigestSet}
use Rattle.it_dsse.specs.Panel.{Panel}
use Rattle.it_docs.specs.declared.link.Link.{Link}
use Rattle.it_docs.specs.declared.policy.Expectation.{Expectation}
use Rattle.it_docs.specs.declared.rule.Side.TheVariants.{Materials, Products}
use Rattle.it_docs.specs.declared.step.Inspection.{Inspection}
use Rattle.it_rules.specs.Item.{Links}
use Rattle.it_rules.specs.Rules.{RulesHold}
use Rattle.it_chain.specs.Chain.{Chain}
use Rattle.it_chain.specs.First.{FirstChainFailure as ChainFirst}
use Rattle.it_chain.specs.declared.chain.StepResult.{StepResult}
use Rattle.it_chain.proofs.Entries.{entry_known}
use Rattle.it_chain.proofs.Excludes.{chain_excludes}
use Rattle.it_base.proofs.Members.{in_head, in_tail}
use Rattle.it_base.specs.Places.{IsFirst, NoneAt}
use Rattle.it_base.proofs.Firsts.{none_first}
use Rattle.it_prov.specs.Meets.{Meets}
use Rattle.it_prov.proofs.OneFit.{fits_one}
use Rattle.it_verify.specs.Documents.{Documents, ReadAs, setting_of}
use Rattle.it_verify.specs.Inspections.{RecordFails, InspectionFails, sides_of}
use Rattle.it_verify.specs.Provenance.{FileFails}
use Rattle.it_verify.specs.RefusedFor.{at_links, at_records, at_inspections, at_deliver}
use Rattle.it_verify.specs.RefusedFor.{at_provenance}
use Rattle.it_verify.specs.Delivered.{DeliverFails, delivery}
use Rattle.it_verify.specs.Evidence.{Evidence, IsEvidence, evidence_links}
use Rattle.it_verify.specs.Inspections.{HasRecorded, InspectionRulesHold}
use Rattle.it_verify.specs.Provenance.{HasProvenance}
use Rattle.it_verify.specs.declared.inputs.Inputs.{Inputs}
use Rattle.it_report.specs.declared.refusal.Refusal.{Refusal}
use Rattle.it_verify.proofs.DocumentsRead.{Clear}
use Rattle.it_verify.proofs.OneReading.{read_alike, evident_alike}

-- no inspection lacks its record
pub no_record : (inputs : Inputs) (inspections : List Inspection) (links : List Link)
    → AllZip (HasRecorded inputs) inspections links → NoneAt (RecordFails inputs) inspections
no_record inputs [] links h = tt
no_record inputs (i ∷ is) [] h = absurd h
no_record inputs (i ∷ is) (l ∷ ls) h = (
  λ refusal. ⊎_elim (λ x. absurd
      (let none : ◌≡◌ {A = Option (List ℕ)} (Some h.0.bytes) None = sym h.0.is_first ∙ x.0 in cc))
      (λ x. x.1 l h.0),
  no_record inputs is ls h.1,
)

-- no rule of an inspection fails
no_rule : (links : Links) (inspections : List Inspection) (given : List Link)
    → AllZip (InspectionRulesHold links) inspections given → NoneAt (InspectionFails links)
    (flat_map sides_of (zip inspections given))
no_rule links [] given h = tt
no_rule links (i ∷ is) [] h = absurd h
no_rule links (i ∷ is) (l ∷ ls) h = (
  λ refusal x. x.2.fails (h.0 Materials x.0),
  (λ refusal x. x.2.fails (h.0 Products x.0), no_rule links is ls h.1),
)

-- a file that has provenance does not lack it
pub file_apart : (panel : Panel) (inputs : Inputs) (expectations : List Expectation) (file : List ℕ
    × DigestSet) → HasProvenance panel inputs expectations file.0 file.1
    → (refusal : Refusal) → ¬ FileFails panel inputs expectations file refusal
file_apart panel inputs expectations file has refusal =
    ⊎_elim (λ x. x.0 has.expectation has.fits)
    (λ x. x.3 has.envelope has.is_line (subst (λ e. Meets panel e file.1 has.envelope)
    (fits_one expectations file.0 has.expectation x.0 has.fits x.2) has.meets))

no_file : (panel : Panel) (inputs : Inputs) (expectations : List Expectation)
    (files : List (List ℕ × DigestSet))
    → ((file : List ℕ × DigestSet) → Contains files file
    → HasProvenance panel inputs expectations file.0 file.1)
    → NoneAt (FileFails panel inputs expectations) files
no_file panel inputs expectations [] has = tt
no_file panel inputs expectations (f ∷ fs) has = (
  file_apart panel inputs expectations f (has f (in_head f fs)),
  no_file panel inputs expectations fs (λ file c. has file (in_tail f fs file c)),
)

module _ (panel : Panel) (inputs : Inputs) (documents : Documents)
    (read : ReadAs inputs documents) where
  pub clear_links : (m : List StepResult) → Chain (setting_of panel documents) inputs.depth
      documents.layout inputs.links m → Clear panel inputs at_links
  clear_links m holds refusal x =
      chain_excludes (setting_of panel documents) inputs.depth documents.layout inputs.links m x.1
      holds
      (read_alike inputs (λ d. ChainFirst (setting_of panel d) inputs.depth d.layout inputs.links
      x.1) x.0 documents x.2 read x.3)

  pub clear_records : (links : List Link) → AllZip (HasRecorded inputs) documents.layout.inspections
      links → Clear panel inputs at_records
  clear_records links h refusal x =
      none_first (RecordFails inputs) documents.layout.inspections refusal
      (no_record inputs documents.layout.inspections links h)
      (read_alike inputs (λ d. IsFirst (RecordFails inputs) d.layout.inspections refusal) x.0
      documents x.1 read x.2)

  pub clear_provenance : ((path : List ℕ) (digests : DigestSet) → get documents.delivered path
      ≡ Some digests → HasProvenance panel inputs documents.policy.expectations path digests)
      → Clear panel inputs at_provenance
  clear_provenance has refusal x =
      none_first (FileFails panel inputs documents.policy.expectations)
      (entries documents.delivered) refusal
      (no_file panel inputs documents.policy.expectations (entries documents.delivered)
      (λ file c. has file.0 file.1 (entry_known documents.delivered file c)))
      (read_alike inputs (λ d. IsFirst (FileFails panel inputs d.policy.expectations)
      (entries d.delivered) refusal) x.0 documents x.1 read x.2)

  module _ (evidence : Evidence) (is_evidence : IsEvidence panel inputs documents evidence) where
    pub clear_inspections : AllZip (InspectionRulesHold (evidence_links evidence))
        documents.layout.inspections evidence.inspections → Clear panel inputs at_inspections
    clear_inspections h refusal x =
        none_first (InspectionFails (evidence_links evidence))
        (flat_map sides_of (zip documents.layout.inspections evidence.inspections)) refusal
        (no_rule (evidence_links evidence) documents.layout.inspections evidence.inspections h)
        (evident_alike panel inputs (λ d e. IsFirst (InspectionFails (evidence_links e))
        (flat_map sides_of (zip d.layout.inspections e.inspections)) refusal) x.0 documents x.1
        evidence x.2 read x.3 is_evidence x.4)

    pub clear_deliver : RulesHold documents.policy.deliver Products (delivery documents.delivered)
        (evidence_links evidence) → Clear panel inputs at_deliver
    clear_deliver h refusal x =
        let fails = evident_alike panel inputs
        (λ d e. DeliverFails (evidence_links e) d.policy.deliver d.delivered refusal) x.0
        documents x.1 evidence x.2 read x.3 is_evidence x.4 in
        fails.2.fails (h fails.0)
