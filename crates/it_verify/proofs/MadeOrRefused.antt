-- Delivered files were made as prescribed, or are refused: place after place.
use Rattle.std.proofs.Common.{◌↔◌, ◌⊎◌, List, [], ◌∷◌, inl, inr}
use Rattle.it_base.specs.Places.{IsFirst}
use Rattle.it_base.proofs.Firsts.{first_stands}
use Rattle.it_dsse.specs.Panel.{Panel}
use Rattle.it_verify.specs.Documents.{Documents, ReadAs}
use Rattle.it_verify.specs.RefusedFor.{Stage, at_policy, at_sums, at_moment, at_files, at_envelope}
use Rattle.it_verify.specs.RefusedFor.{at_payload_type, at_owners, at_layout, at_links, at_records}
use Rattle.it_verify.specs.RefusedFor.{at_inspections, at_deliver, at_provenance, RefusedFor}
use Rattle.it_verify.specs.RefusedFor.{FailsAt, stages}
use Rattle.it_verify.specs.Evidence.{Evidence, IsEvidence}
use Rattle.it_verify.specs.Made.{Made}
use Rattle.it_verify.specs.declared.inputs.Inputs.{Inputs}
use Rattle.it_report.specs.declared.refusal.Refusal.{Refusal}
use Rattle.it_verify.proofs.Documented.{StandsOr, policy_or, sums_or, moment_or, files_or}
use Rattle.it_verify.proofs.Documented.{envelope_or, payload_type_or, owners_or, layout_or}
use Rattle.it_verify.proofs.Evident.{links_or, records_or}
use Rattle.it_verify.proofs.Proven.{provenance_or}
use Rattle.it_verify.proofs.Refused.{none_stands}
use Rattle.it_verify.proofs.Ruled.{inspections_or, deliver_or}

module _ (panel : Panel) (inputs : Inputs) where
  -- made, or something stands first among stages
  Outcome : List Stage → Type 0
  Outcome stages = Made panel inputs
      ⊎ ((refusal : Refusal) × IsFirst (FailsAt panel inputs) stages refusal)

  then_at : {G : Type 0} (place : Stage) (later : List Stage) → StandsOr panel inputs place G
      → (G → Outcome later) → Outcome (place ∷ later)
  unfolding Outcome
  then_at place later (inl found) next = inr (found.0, inl found.1)
  then_at place later (inr clear) next =
      elim (next clear.0) [
        | inl made ↦ inl made
        | inr found ↦ inr (found.0, inr (clear.1, found.1))
      ]

  last : Made panel inputs → Outcome []
  unfolding Outcome
  last made = inl made

  outcome : Outcome stages
  outcome =
      then_at at_policy _ (policy_or panel inputs) (λ policy.
      then_at at_sums _ (sums_or panel inputs) (λ sums.
      then_at at_moment _ (moment_or panel inputs) (λ moment.
      then_at at_files _ (files_or panel inputs sums.0 sums.1) (λ some_file.
      then_at at_envelope _ (envelope_or panel inputs) (λ envelope.
      then_at at_payload_type _ (payload_type_or panel inputs envelope.0 envelope.1)
      (λ payload_type.
      then_at at_owners _ (owners_or panel inputs envelope.0 envelope.1 policy.0 policy.1)
      (λ owners.
      then_at at_layout _ (layout_or panel inputs envelope.0 envelope.1) (λ layout.
      let documents : Documents = record {
        policy = policy.0;
        delivered = sums.0;
        moment = moment.0;
        envelope = envelope.0;
        layout =
            layout.0;
      } in
      let read : ReadAs inputs documents = record {
        policy = policy.1;
        delivered = sums.1;
        moment = moment.1;
        envelope =
            envelope.1;
        payload_type = payload_type;
        layout = layout.1;
      } in
      then_at at_links _ (links_or panel inputs documents read) (λ steps.
      then_at at_records _ (records_or panel inputs documents read) (λ records.
      let evidence : Evidence = record { steps = steps.0; inspections = records.0 } in
      let is_evidence : IsEvidence panel inputs documents evidence = record {
        steps = steps.1;
        inspections = records.1;
      } in
      then_at at_inspections _ (inspections_or panel inputs documents read evidence is_evidence)
      (λ inspection_rules.
      then_at at_deliver _ (deliver_or panel inputs documents read evidence is_evidence)
      (λ deliver_rules.
      then_at at_provenance [] (provenance_or panel inputs documents read) (λ provenance.
      last (record {
        documents = documents;
        evidence = evidence;
        made = record {
          read = read;
          some_file = some_file;
          owners = owners;
          is_evidence = is_evidence;
          inspection_rules = inspection_rules;
          deliver_rules =
              deliver_rules;
          provenance = provenance;
        };
      }))))))))))))))

  pub made_or_refused : Made panel inputs ⊎ ((refusal : Refusal) × RefusedFor panel inputs refusal)
  unfolding Outcome
  made_or_refused = outcome

  made_where_clear : ((place : Stage) (refusal : Refusal) → ¬ FailsAt panel inputs place refusal)
      → Made panel inputs
  made_where_clear clear = elim made_or_refused [
    | inl made ↦ made
    | inr refused ↦ absurd (let found = first_stands (FailsAt panel inputs) stages refused.0
        refused.1 in clear found.0 refused.0 found.2)
  ]

  pub made_or_first : Made panel inputs
      ↔ ((place : Stage) (refusal : Refusal) → ¬ FailsAt panel inputs place refusal)
  made_or_first = (
    λ made. none_stands panel inputs made.documents made.evidence made.made,
    made_where_clear,
  )
