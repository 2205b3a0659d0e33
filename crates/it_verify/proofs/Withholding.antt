-- Inputs within others that were made as the owners prescribed are accepted with no more keys, or
-- refused for what is withheld.
use Rattle.std.proofs.Common.{◌≡◌, ℕ, List, [], ◌∷◌, ◌++◌, flat_map, map, zip, Some, inl, inr, refl}
use Rattle.std.proofs.Common.{sym, ap, subst, ⊎_elim}
use Rattle.std.specs.List.{AllZip}
use Rattle.std.specs.FinMap.{entries, get, keys}
use Rattle.it_base.specs.Places.{IsFirst}
use Rattle.it_base.proofs.Firsts.{first_stands}
use Rattle.it_digest.specs.declared.compare.DigestSet.{DigestSet}
use Rattle.it_dsse.specs.Panel.{Panel}
use Rattle.it_docs.specs.declared.link.Link.{Link}
use Rattle.it_chain.specs.Alike.{ChainWithin}
use Rattle.it_chain.specs.Chain.{Chain}
use Rattle.it_chain.specs.Laws.{IsNoMore, IsThresholdFault, ChainOnlyWithholds}
use Rattle.it_chain.specs.declared.chain.StepResult.{StepResult}
use Rattle.it_chain.specs.declared.refusal.ChainFault.{ChainFault}
use Rattle.it_chain.specs.declared.refusal.ChainFault.TheVariants as chain
use Rattle.it_chain.proofs.Entries.{entry_known}
use Rattle.it_chain.proofs.Withheld.{links_same, withheld}
use Rattle.it_chain.proofs.Zips.{zip_weaker}
use Rattle.it_verify.specs.InputsAlike.{InputsWithin}
use Rattle.it_verify.specs.Documents.{Documents, ReadAs, setting_of}
use Rattle.it_verify.specs.Inspections.{InspectionFails, sides_of}
use Rattle.it_verify.specs.Provenance.{FileFails}
use Rattle.it_verify.specs.Refusals.{fault_of}
use Rattle.it_verify.specs.RefusedFor.{Stage, at_links, at_inspections, at_deliver, at_provenance}
use Rattle.it_verify.specs.RefusedFor.{FailsAt, stages}
use Rattle.it_verify.specs.Delivered.{DeliverFails}
use Rattle.it_verify.specs.Evidence.{Evidence, IsEvidence, evidence_links}
use Rattle.it_verify.specs.Inspections.{HasRecorded, recorded_in}
use Rattle.it_verify.specs.Made.{IsMadeBy, verdict_of}
use Rattle.it_verify.specs.Provenance.{HasProvenance}
use Rattle.it_verify.specs.Verdict.{IsVerdict}
use Rattle.it_verify.specs.VerificationLaws.{HasNoMoreKeys, IsWithheld, OnlyWithholds}
use Rattle.it_verify.specs.declared.inputs.Inputs.{Inputs}
use Rattle.it_report.specs.declared.refusal.Refusal.{Refusal}
use Rattle.it_report.specs.declared.verdict.Verdict.{Verdict}
use Rattle.it_report.specs.declared.verdict.Verdict.TheVariants.{Accepted, Refused}
use Rattle.it_verify.proofs.Counterparts.{Carried, Reread, Share, at_each, recorded_there, reread}
use Rattle.it_verify.proofs.Counterparts.{share_of, with_envelope}
use Rattle.it_verify.proofs.OneReading.{read_alike}
use Rattle.it_verify.proofs.Refused.{none_stands}

threshold_withheld : (fault : ChainFault) → IsThresholdFault fault → IsWithheld (fault_of fault)
threshold_withheld (chain.Threshold step found needed) h = inl (step, found, needed, refl)
threshold_withheld chain.Expired h = absurd h
threshold_withheld (chain.TwoPayloads step id) h = absurd h
threshold_withheld chain.TooDeep h = absurd h
threshold_withheld (chain.Disagree step id) h = absurd h
threshold_withheld chain.InspectionInSublayout h = absurd h
threshold_withheld (chain.RuleFailed item side index path) h = absurd h

no_more_keys : (results before : List StepResult) → AllZip IsNoMore results before
    → AllZip HasNoMoreKeys (map (λ (r : StepResult). (r.name, r.keys)) results)
    (map (λ (r : StepResult). (r.name, r.keys)) before)
no_more_keys [] [] h = tt
no_more_keys [] (b ∷ bs) h = absurd h
no_more_keys (r ∷ rs) [] h = absurd h
no_more_keys (r ∷ rs) (b ∷ bs) h = ((h.0.name, h.0.keys), no_more_keys rs bs h.1)

module _ (panel : Panel) (less more : Inputs) (h : InputsWithin panel less more)
    (documents : Documents) (evidence : Evidence)
    (made : IsMadeBy panel more documents evidence) where
  share : Share panel less more
  share = share_of ChainWithin (λ here there. here → there) panel less more h

  -- ---- what the smaller inputs read as, and with which evidence
  module _ (given : Documents) (read : ReadAs less given) where
    again : Reread panel more given
    again = reread panel less more share given read

    -- what is so of the documents is so of those that the larger inputs reread
    so_there : (F : Documents → Type 0) → F documents → F (with_envelope given again.other)
    so_there F = read_alike more F documents (with_envelope given again.other) made.read again.read

    steps_there : Chain (setting_of panel given) more.depth given.layout more.links evidence.steps
    steps_there = so_there (λ d. Chain (setting_of panel d) more.depth d.layout more.links
        evidence.steps) made.is_evidence.steps

    chain_there : Chain (setting_of panel given) less.depth given.layout more.links evidence.steps
    chain_there = subst (λ depth. Chain (setting_of panel given) depth given.layout more.links
        evidence.steps) (sym h.depth) steps_there

    chains : ChainOnlyWithholds (setting_of panel given) less.depth given.layout less.links
        more.links
    chains = withheld (setting_of panel given) less.depth given.layout less.links more.links
        (h.bundles given read)

    module _ (found : Evidence) (is : IsEvidence panel less given found) where
      steps_no_more : AllZip IsNoMore found.steps evidence.steps
      steps_no_more = chains.chain found.steps evidence.steps is.steps chain_there

      -- the evidence of the larger inputs: its steps, and what the inspections recorded
      abbrev there : Evidence
      there = record { steps = evidence.steps; inspections = found.inspections }

      evidence_there : IsEvidence panel more (with_envelope given again.other) there
      evidence_there = record {
        steps = steps_there;
        inspections = zip_weaker (HasRecorded less) (HasRecorded more)
            (recorded_there panel less more share) given.layout.inspections found.inspections
            is.inspections;
      }

      links_there : evidence_links found ≡ evidence_links there
      links_there = ap (λ links. links ++ map (λ (link : Link). (link.name, recorded_in link))
          found.inspections) (links_same found.steps evidence.steps steps_no_more)

  -- ---- place by place
  abbrev Few : Stage → Type 0
  Few place = (refusal : Refusal) → FailsAt panel less place refusal → IsWithheld refusal.fault

  -- nothing stands at a place of the larger inputs
  not_there : (place : Stage) → Carried panel less more place → Few place
  not_there place carried refusal x =
      absurd (none_stands panel more documents evidence made place refusal (carried refusal x))

  links_few : Few at_links
  links_few refusal x =
      let few : IsThresholdFault x.1.fault = (chains x.0 x.2).first x.1 evidence.steps x.3
      (chain_there x.0 x.2) in
      subst (λ (r : Refusal). IsWithheld r.fault) (sym x.4) (threshold_withheld x.1.fault few)

  inspections_there : Carried panel less more at_inspections
  inspections_there refusal x = (
    with_envelope x.0 (again x.0 x.2).other,
    there x.0 x.2 x.1 x.3,
    (again x.0 x.2).read,
    evidence_there x.0 x.2 x.1 x.3,
    subst (λ links. IsFirst (InspectionFails links)
        (flat_map sides_of (zip x.0.layout.inspections x.1.inspections)) refusal)
        (links_there x.0 x.2 x.1 x.3) x.4,
  )

  deliver_there : Carried panel less more at_deliver
  deliver_there refusal x = (
    with_envelope x.0 (again x.0 x.2).other,
    there x.0 x.2 x.1 x.3,
    (again x.0 x.2).read,
    evidence_there x.0 x.2 x.1 x.3,
    subst (λ links. DeliverFails links x.0.policy.deliver x.0.delivered refusal)
        (links_there x.0 x.2 x.1 x.3) x.4,
  )

  abbrev AllProven : Documents → Type 0
  AllProven d = (path : List ℕ) (digests : DigestSet) → get d.delivered path ≡ Some digests
      → HasProvenance panel more d.policy.expectations path digests

  provenance_few : Few at_provenance
  provenance_few refusal x =
      let found = first_stands (FileFails panel less x.0.policy.expectations)
      (entries x.0.delivered) refusal x.2 in
      let has = so_there x.0 x.1 AllProven made.provenance found.0.0 found.0.1
      (entry_known x.0.delivered found.0 found.1) in
      ⊎_elim (λ none. absurd (none.0 has.expectation has.fits))
      (λ lacks. inr (found.0.0, lacks.1, ap (λ (r : Refusal). r.fault) lacks.5)) found.2

  few : (place : Stage) → Few place
  few = at_each panel less more share Few not_there links_few
      (not_there at_inspections inspections_there) (not_there at_deliver deliver_there)
      provenance_few

  -- ---- the verdict
  accepted_there : (given : Documents) (found : Evidence) → IsMadeBy panel less given found
      → OnlyWithholds (verdict_of given found) (verdict_of documents evidence)
  accepted_there given found is = (
    no_more_keys found.steps evidence.steps (steps_no_more given is.read found is.is_evidence),
    sym (so_there given is.read (λ d. keys documents.delivered ≡ keys d.delivered) refl),
  )

  verdict_withheld : (verdict : Verdict) → IsVerdict panel less verdict
      → OnlyWithholds verdict (verdict_of documents evidence)
  verdict_withheld (Accepted steps files) x =
      subst (λ v. OnlyWithholds v (verdict_of documents evidence)) (sym x.3)
      (accepted_there x.0 x.1 x.2)
  verdict_withheld (Refused refusal) x = let found =
      first_stands (FailsAt panel less) stages refusal x in few found.0 refusal found.2

-- inputs within others that were made as prescribed are only withheld from
pub withheld_inputs : (panel : Panel) (less more : Inputs) (documents : Documents)
    (evidence : Evidence) (verdict : Verdict) → InputsWithin panel less more
    → IsMadeBy panel more documents evidence → IsVerdict panel less verdict
    → OnlyWithholds verdict (verdict_of documents evidence)
withheld_inputs panel less more documents evidence verdict h made =
    verdict_withheld panel less more h documents evidence made verdict
