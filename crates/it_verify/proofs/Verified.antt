-- What a verification comes to, from what each of its parts comes to.
use Rattle.std.proofs.Common.{◌≡◌, ℕ, List, [], ◌∷◌, ◌++◌, flat_map, zip}
use Rattle.std.proofs.Common.{refl, sym, subst}
use Rattle.std.specs.FinMap.{entries}
use Rattle.std.specs.List.{AllByRecursion, AllZip}
use Rattle.it_base.specs.Places.{IsFirst, NoneAt}
use Rattle.it_base.proofs.Firsts.{none_append}
use Rattle.it_digest.specs.Sums.{lines_of}
use Rattle.it_dsse.specs.Panel.{Panel}
use Rattle.it_dsse.specs.declared.envelope.Envelope.{Envelope}
use Rattle.it_docs.specs.declared.rule.Side.TheVariants.{Products}
use Rattle.it_rules.specs.Rules.{RulesHold}
use Rattle.it_chain.specs.Chain.{Chain}
use Rattle.it_chain.specs.First.{FirstChainFailure as ChainFirst}
use Rattle.it_chain.specs.declared.chain.StepResult.{StepResult}
use Rattle.it_chain.specs.declared.refusal.ChainError.{ChainError}
use Rattle.it_chain.specs.declared.refusal.ChainError.TheVariants as chain
use Rattle.it_chain.specs.declared.refusal.ChainRefusal.{ChainRefusal}
use Rattle.it_prov.specs.ProvenanceLines.{AreReadFrom}
use Rattle.it_verify.specs.Documents.{Documents, setting_of}
use Rattle.it_verify.specs.Inspections.{InspectionFails, RecordFails, sides_of}
use Rattle.it_verify.specs.Refusals.{refusal_of}
use Rattle.it_verify.specs.RefusedFor.{RefusedFor, Stage, FailsAt, at_deliver, at_inspections}
use Rattle.it_verify.specs.RefusedFor.{at_links, at_provenance, at_records}
use Rattle.it_verify.specs.Delivered.{DeliverFails}
use Rattle.it_verify.specs.inside.Failures.{failure_of}
use Rattle.it_verify.specs.inside.Provenance.{FileLacks, FileProven}
use Rattle.it_verify.specs.Delivered.{delivery}
use Rattle.it_verify.specs.Evidence.{Evidence, IsEvidence, evidence_links}
use Rattle.it_verify.specs.Inspections.{HasRecorded, InspectionRulesHold}
use Rattle.it_verify.specs.Made.{IsMadeBy, Made, verdict_of}
use Rattle.it_verify.specs.Verdict.{IsVerdict, OnAccepted, OnRefused}
use Rattle.it_verify.specs.inside.DocumentsHold.{DocumentsHold, document_stages}
use Rattle.it_verify.specs.inside.Failures.{RefusedAs}
use Rattle.it_verify.specs.declared.failure.Failure.{Failure}
use Rattle.it_verify.specs.declared.failure.Failure.TheVariants.{Refused}
use Rattle.it_verify.specs.declared.inputs.Inputs.{Inputs}
use Rattle.it_report.specs.declared.refusal.Refusal.{Refusal}
use Rattle.it_report.specs.declared.verdict.Verdict.{Verdict}
use Rattle.it_report.specs.declared.verdict.Verdict.TheVariants as verdict
use Rattle.it_verify.proofs.DocumentsRead.{documents_stand}
use Rattle.it_verify.proofs.EvidenceClear.{clear_deliver, clear_inspections, clear_links}
use Rattle.it_verify.proofs.EvidenceClear.{clear_records}
use Rattle.it_verify.proofs.Failures.{fails_at, refused_weaker}
use Rattle.it_verify.proofs.ProvenanceFound.{all_proven, first_unproven}
use Rattle.it_verify.proofs.Refused.{made_not_refused}
use Rattle.it_verify.proofs.RulesJudged.{Hold, hold_zip}

module _ (panel : Panel) (inputs : Inputs) (documents : Documents)
    (hold : DocumentsHold panel inputs documents) where
  abbrev At : Stage → Refusal → Type 0
  At = FailsAt panel inputs

  abbrev Fails : Failure → Type 0
  Fails = RefusedAs (RefusedFor panel inputs)

  -- ---- the evidence
  -- the layout does not hold of the links
  pub links_fail : (e : ChainError)
      → ((r : ChainRefusal) → e ≡ chain.Refused r
      → ChainFirst (setting_of panel documents) inputs.depth documents.layout inputs.links r)
      → Fails (failure_of e)
  links_fail (chain.Refused r) first =
      fails_at At document_stages at_links (at_records ∷ at_inspections ∷ at_deliver ∷ at_provenance
      ∷ []) (Refused (refusal_of r)) (documents_stand panel inputs documents hold)
      (documents, r, hold.read, first r refl, refl)
  links_fail chain.OutOfMemory first = tt

  -- it holds, and an inspection lacks its record
  pub records_fail : (m : List StepResult) (e : Failure)
      → Chain (setting_of panel documents) inputs.depth documents.layout inputs.links m
      → RefusedAs (IsFirst (RecordFails inputs) documents.layout.inspections) e → Fails e
  records_fail m e holds fails =
      fails_at At (document_stages ++ at_links ∷ []) at_records
      (at_inspections ∷ at_deliver ∷ at_provenance ∷ []) e
      (none_append At document_stages (at_links ∷ []) (documents_stand panel inputs documents hold)
      (clear_links panel inputs documents hold.read m holds, tt))
      (refused_weaker (IsFirst (RecordFails inputs) documents.layout.inspections) (At at_records) e
      (λ r x. (documents, hold.read, x)) fails)

  module _ (evidence : Evidence) (is_evidence : IsEvidence panel inputs documents evidence) where
    abbrev evidence_places : List Stage
    evidence_places = document_stages ++ at_links ∷ at_records ∷ []

    gathered : NoneAt At evidence_places
    gathered =
        none_append At document_stages (at_links ∷ at_records ∷ [])
        (documents_stand panel inputs documents hold) (
          clear_links panel inputs documents hold.read evidence.steps is_evidence.steps,
          (
            clear_records panel inputs documents hold.read evidence.inspections
                is_evidence.inspections,
            tt,
          ),
        )

    -- ---- the rules
    -- a rule of an inspection fails
    pub inspections_fail : (e : Failure)
        → RefusedAs (IsFirst (InspectionFails (evidence_links evidence))
        (flat_map sides_of (zip documents.layout.inspections evidence.inspections))) e → Fails e
    inspections_fail e fails =
        fails_at At evidence_places at_inspections (at_deliver ∷ at_provenance ∷ []) e gathered
        (refused_weaker (IsFirst (InspectionFails (evidence_links evidence))
        (flat_map sides_of (zip documents.layout.inspections evidence.inspections)))
        (At at_inspections) e
        (λ r x. (documents, evidence, hold.read, is_evidence, x)) fails)

    module _ (rules : Hold (evidence_links evidence)
        (zip documents.layout.inspections evidence.inspections)) where
      inspection_rules : AllZip (InspectionRulesHold (evidence_links evidence))
          documents.layout.inspections evidence.inspections
      inspection_rules = hold_zip (evidence_links evidence) documents.layout.inspections
          evidence.inspections (HasRecorded inputs) is_evidence.inspections rules

      judged : NoneAt At (evidence_places ++ at_inspections ∷ [])
      judged = none_append At evidence_places (at_inspections ∷ []) gathered (
        clear_inspections panel inputs documents hold.read evidence is_evidence inspection_rules,
        tt,
      )

      -- those hold, and a rule on what is delivered fails
      pub deliver_fails : (e : Failure)
          → RefusedAs (DeliverFails (evidence_links evidence) documents.policy.deliver
          documents.delivered) e → Fails e
      deliver_fails e fails =
          fails_at At (evidence_places ++ at_inspections ∷ []) at_deliver (at_provenance ∷ []) e
          judged
          (refused_weaker (DeliverFails (evidence_links evidence) documents.policy.deliver
          documents.delivered) (At at_deliver) e
          (λ r x. (documents, evidence, hold.read, is_evidence, x)) fails)

      module _ (deliver : RulesHold documents.policy.deliver Products (delivery documents.delivered)
          (evidence_links evidence)) (envelopes : List Envelope)
          (places : List ℕ) (are : AreReadFrom 1 (lines_of inputs.provenance) envelopes places)
        where
          -- ---- provenance
          -- those hold too, and a file lacks provenance
          pub provenance_fails : (e : Failure)
              → RefusedAs (IsFirst (FileLacks panel documents.policy.expectations envelopes)
              (entries documents.delivered)) e → Fails e
          provenance_fails e fails =
              fails_at At (evidence_places ++ at_inspections ∷ at_deliver ∷ []) at_provenance [] e
              (none_append At evidence_places (at_inspections ∷ at_deliver ∷ []) gathered (
                clear_inspections panel inputs documents hold.read evidence is_evidence
                    inspection_rules,
                (clear_deliver panel inputs documents hold.read evidence is_evidence deliver, tt),
              ))
              (refused_weaker (IsFirst (FileLacks panel documents.policy.expectations envelopes)
              (entries documents.delivered)) (At at_provenance) e
              (λ r x. (
                documents,
                hold.read,
                first_unproven panel inputs documents.policy.expectations
                    envelopes places are documents.delivered r x,
              )) fails)

          -- each file has it
          pub made_by : AllByRecursion (FileProven panel documents.policy.expectations envelopes)
              (entries documents.delivered) → IsMadeBy panel inputs documents evidence
          made_by proven = record {
            read = hold.read;
            some_file = hold.some_file;
            owners = hold.owners;
            is_evidence = is_evidence;
            inspection_rules = inspection_rules;
            deliver_rules = deliver;
            provenance = all_proven panel inputs documents.policy.expectations envelopes places are
                documents.delivered proven;
          }

-- ---- the verdict
module _ (panel : Panel) (inputs : Inputs) where
  pub is_verdict : (documents : Documents) (evidence : Evidence) (answer : Verdict)
      → IsMadeBy panel inputs documents evidence → answer ≡ verdict_of documents evidence
      → IsVerdict panel inputs answer
  is_verdict documents evidence answer made is = subst (IsVerdict panel inputs) (sym is)
      (documents, evidence, made, refl)

  -- who is accepted was made, and who is refused was not
  pub on_accepted : (answer : Verdict) → IsVerdict panel inputs answer
      → OnAccepted answer (Made panel inputs)
  on_accepted (verdict.Accepted steps files) h = record {
    documents = h.0;
    evidence = h.1;
    made = h.2;
  }
  on_accepted (verdict.Refused refusal) h = tt

  pub on_refused : (answer : Verdict) → IsVerdict panel inputs answer
      → OnRefused answer (¬ Made panel inputs)
  on_refused (verdict.Accepted steps files) h = tt
  on_refused (verdict.Refused refusal) h = λ made. made_not_refused panel inputs refusal made h
