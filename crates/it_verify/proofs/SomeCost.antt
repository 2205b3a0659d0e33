-- That a verification of inputs costs some number of checks.
use Rattle.std.proofs.Common.{◌≡◌, ◌⊎◌, ℕ, ◌+◌, ◌*◌, List, length, inl, inr, refl}
use Rattle.std.specs.FinMap.{keys, len}
use Rattle.it_base.specs.Sum.{CostsIfFound}
use Rattle.it_base.proofs.Sums.{some_if_found, some_sum}
use Rattle.it_digest.specs.Sums.{lines_of}
use Rattle.it_dsse.specs.Panel.{Panel}
use Rattle.it_dsse.specs.Envelope.{EnvelopeOf}
use Rattle.it_dsse.proofs.Decided.{envelope_of, envelope_of-finds}
use Rattle.it_docs.specs.declared.policy.Expectation.{Expectation}
use Rattle.it_chain.specs.Cost.{HasSignatures}
use Rattle.it_chain.proofs.SomeCost.{some_cost}
use Rattle.it_prov.specs.Cost.{key_count}
use Rattle.it_prov.specs.Fits.{Fits}
use Rattle.it_prov.proofs.Fitting.{fits_or_none}
use Rattle.it_verify.specs.VerificationCost.{AreOwners, VerificationCosts, FileCosts, FilesCost}
use Rattle.it_verify.specs.VerificationCost.{LinksCost}
use Rattle.it_verify.specs.Documents.{Documents, ReadAs, setting_of}
use Rattle.it_verify.specs.RefusedFor.{Stage, at_policy, at_sums, at_moment, at_envelope}
use Rattle.it_verify.specs.RefusedFor.{at_payload_type, at_layout, FailsAt}
use Rattle.it_verify.specs.declared.inputs.Inputs.{Inputs}
use Rattle.it_report.specs.declared.refusal.Refusal.{Refusal}
use Rattle.it_verify.proofs.Documented.{StandsOr, policy_or, sums_or, moment_or, envelope_or}
use Rattle.it_verify.proofs.Documented.{payload_type_or, layout_or}
use Rattle.it_verify.proofs.DocumentsRead.{clear_policy, clear_sums, clear_moment, clear_envelope}
use Rattle.it_verify.proofs.DocumentsRead.{clear_type, clear_layout}

-- something of which P holds, or none
abbrev SomeOrNone : {X : Type 0} → (X → Type 0) → Type 0
SomeOrNone {X} P = ((x : X) × P x) ⊎ ((x : X) → ¬ P x)

some_or_none : {X : Type 0} (Is : X → Type 0) (Cost : X → ℕ → Type 0)
    → ((x : X) → (n : ℕ) × Cost x n) → SomeOrNone Is → (n : ℕ) × CostsIfFound Is Cost n
some_or_none Is Cost each (inl found) = let cost = each found.0 in
    (cost.0, inl (found.0, found.1, cost.1))
some_or_none Is Cost each (inr none) = (0, inr (none, refl))

line_cost : (line : List ℕ) → (n : ℕ) × CostsIfFound (EnvelopeOf line) HasSignatures n
line_cost line = some_if_found (EnvelopeOf line) HasSignatures
    (λ envelope. (length envelope.signatures, refl)) (envelope_of line) (envelope_of-finds line)

file_cost : (expectations : List Expectation) (signatures : ℕ) (path : List ℕ) → (n : ℕ)
    × FileCosts expectations signatures path n
file_cost expectations signatures path =
    some_or_none (Fits expectations path)
    (λ expectation n. n ≡ key_count expectation.builders * signatures)
    (λ expectation. (key_count expectation.builders * signatures, refl))
    (fits_or_none path expectations)

module _ (panel : Panel) (inputs : Inputs) where
  -- where something stands at a place at which nothing stands if P holds, nothing is so
  then_found : {X : Type 0} (P : X → Type 0) {G : Type 0} (place : Stage)
      → StandsOr panel inputs place G
      → ((x : X) → P x → (refusal : Refusal) → ¬ FailsAt panel inputs place refusal)
      → (G → SomeOrNone P) → SomeOrNone P
  then_found P place (inl found) clear next = inr (λ x is. clear x is found.0 found.1)
  then_found P place (inr given) clear next = next given.0

  owners_or_none : SomeOrNone (AreOwners inputs)
  owners_or_none =
      then_found (AreOwners inputs) at_policy (policy_or panel inputs)
      (λ read are. clear_policy panel inputs read.0 are.0) (λ policy.
      then_found (AreOwners inputs) at_envelope (envelope_or panel inputs)
      (λ read are. clear_envelope panel inputs read.1 are.1) (λ envelope.
      inl ((policy.0, envelope.0), (policy.1, envelope.1))))

  read_or_none : SomeOrNone (ReadAs inputs)
  read_or_none =
      then_found (ReadAs inputs) at_policy (policy_or panel inputs)
      (λ documents read. clear_policy panel inputs documents.policy read.policy) (λ policy.
      then_found (ReadAs inputs) at_sums (sums_or panel inputs)
      (λ documents read. clear_sums panel inputs documents.delivered read.delivered) (λ sums.
      then_found (ReadAs inputs) at_moment (moment_or panel inputs)
      (λ documents read. clear_moment panel inputs documents.moment read.moment) (λ moment.
      then_found (ReadAs inputs) at_envelope (envelope_or panel inputs)
      (λ documents read. clear_envelope panel inputs documents.envelope read.envelope)
      (λ envelope.
      then_found (ReadAs inputs) at_payload_type
      (payload_type_or panel inputs envelope.0 envelope.1)
      (λ documents read. clear_type panel inputs documents.envelope read.envelope
      read.payload_type) (λ payload_type.
      then_found (ReadAs inputs) at_layout (layout_or panel inputs envelope.0 envelope.1)
      (λ documents read. clear_layout panel inputs documents.envelope read.envelope
      documents.layout read.layout) (λ layout.
      let documents : Documents = record {
        policy = policy.0;
        delivered = sums.0;
        moment = moment.0;
        envelope = envelope.0;
        layout =
            layout.0;
      } in
      inl (
        documents,
        record {
          policy = policy.1;
          delivered = sums.1;
          moment = moment.1;
          envelope =
              envelope.1;
          payload_type = payload_type;
          layout = layout.1;
        },
      )))))))

  pub inputs_cost : (n : ℕ) × VerificationCosts panel inputs n
  inputs_cost =
      let owners = some_or_none (AreOwners inputs)
      (λ read n. n ≡ len read.0.owners * length read.1.signatures)
      (λ read. (len read.0.owners * length read.1.signatures, refl)) owners_or_none in
      let links = some_or_none (ReadAs inputs) (LinksCost panel inputs)
      (λ documents. some_cost (setting_of panel documents) inputs.depth documents.layout
      inputs.links) read_or_none in
      let lines = some_sum (λ line. CostsIfFound (EnvelopeOf line) HasSignatures) line_cost
      (lines_of inputs.provenance) in
      let files = some_or_none (ReadAs inputs) (λ documents. FilesCost documents lines.0)
      (λ documents. some_sum (FileCosts documents.policy.expectations lines.0)
      (file_cost documents.policy.expectations lines.0) (keys documents.delivered))
      read_or_none in (
        owners.0 + links.0 + files.0,
        record {
          owners = owners.0;
          links = links.0;
          signatures = lines.0;
          files = files.0;
          of_owners = owners.1;
          of_links = links.1;
          of_lines = lines.1;
          of_files = files.1;
          sum =
              refl;
        },
      )
