-- Each of the documents reads, and then nothing stands at its place, or its place has something.
use Rattle.std.proofs.Common.{◌≡◌, ◌≢◌, ◌⊎◌, ℕ, ℤ, List, Option, Some, None, Result, Ok, Err}
use Rattle.std.proofs.Common.{MatchResult, inl, inr, refl, subst}
use Rattle.std.specs.FinMap.{empty, entries}
use Rattle.std.specs.Str.{bytes_eq}
use Rattle.std.proofs.lemmas.Slice.Eq.{bytes_eq-Decides}
use Rattle.it_base.specs.Finds.{Finds}
use Rattle.it_base.proofs.Settled.{settled_by}
use Rattle.it_base.proofs.Firsts.{first_or_all}
use Rattle.it_digest.specs.Artifacts.{ArtifactMap}
use Rattle.it_digest.specs.Listed.{AreListed, IsFirstBadIn}
use Rattle.it_digest.specs.declared.listed.BadLine.{BadLine}
use Rattle.it_digest.proofs.Decided.{is_same_map, is_same_map-Decides}
use Rattle.it_digest.proofs.ListedDecided.{lists_of, lists_of-is}
use Rattle.it_dsse.specs.Panel.{Panel}
use Rattle.it_dsse.specs.Envelope.{EnvelopeOf}
use Rattle.it_dsse.specs.declared.envelope.Envelope.{Envelope}
use Rattle.it_dsse.specs.declared.key_object.KeyObject.{KeyObject}
use Rattle.it_dsse.proofs.Decided.{envelope_of, envelope_of-finds}
use Rattle.it_dsse.proofs.SignerSettled.{signer_or_not}
use Rattle.it_docs.specs.Layout.{LayoutOf}
use Rattle.it_docs.specs.LayoutPart.{LayoutPartOf}
use Rattle.it_docs.specs.Moment.{MomentOf}
use Rattle.it_docs.specs.PayloadType.{in_toto_type}
use Rattle.it_docs.specs.Policy.{PolicyOf}
use Rattle.it_docs.specs.PolicyPart.{PolicyPartOf}
use Rattle.it_docs.specs.declared.layout.Layout.{Layout}
use Rattle.it_docs.specs.declared.layout_fault.LayoutPart.{LayoutPart}
use Rattle.it_docs.specs.declared.policy.Policy.{Policy}
use Rattle.it_docs.specs.declared.policy_fault.PolicyPart.{PolicyPart}
use Rattle.it_docs.proofs.LayoutDecided.{layout_result, layout_result-is}
use Rattle.it_docs.proofs.MomentDecided.{moment_of, moment_of-finds}
use Rattle.it_docs.proofs.PolicyDecided.{policy_result, policy_result-is}
use Rattle.it_verify.specs.Owners.{OwnerLacks}
use Rattle.it_verify.specs.Refusals.{whole}
use Rattle.it_verify.specs.RefusedFor.{Stage, at_policy, at_sums, at_moment, at_files, at_envelope}
use Rattle.it_verify.specs.RefusedFor.{at_payload_type, at_owners, at_layout, FailsAt}
use Rattle.it_verify.specs.RefusedFor.{line_fault}
use Rattle.it_verify.specs.Owners.{OwnersSign}
use Rattle.it_verify.specs.declared.inputs.Inputs.{Inputs}
use Rattle.it_report.specs.declared.refusal.Fault.TheVariants.{BadPolicy, BadMoment}
use Rattle.it_report.specs.declared.refusal.Fault.TheVariants.{NoFiles, BadEnvelope}
use Rattle.it_report.specs.declared.refusal.Fault.TheVariants.{WrongPayloadType, OwnerMissing}
use Rattle.it_report.specs.declared.refusal.Fault.TheVariants.{BadLayout}
use Rattle.it_report.specs.declared.refusal.Refusal.{Refusal}
use Rattle.it_verify.proofs.DocumentsRead.{clear_policy, clear_sums, clear_moment, clear_files}
use Rattle.it_verify.proofs.DocumentsRead.{clear_envelope, clear_type, clear_owners, clear_layout}
use Rattle.it_verify.proofs.Owning.{Signs, owners_sign, signs_apart}

module _ (panel : Panel) (inputs : Inputs) where
  -- something stands at a place, or G holds and nothing does
  abbrev pub StandsOr : Stage → Type 0 → Type 0
  StandsOr place G = ((refusal : Refusal) × FailsAt panel inputs place refusal)
      ⊎ (G × ((refusal : Refusal) → ¬ FailsAt panel inputs place refusal))

  pub policy_or : StandsOr at_policy ((policy : Policy) × PolicyOf inputs.policy policy)
  policy_or = go (policy_result inputs.policy) (policy_result-is inputs.policy)
    where
      go : (r : Result Policy PolicyPart) → MatchResult r (PolicyOf inputs.policy)
          (PolicyPartOf inputs.policy)
          → StandsOr at_policy ((policy : Policy) × PolicyOf inputs.policy policy)
      go (Ok policy) h = inr ((policy, h), clear_policy panel inputs policy h)
      go (Err part) h = inl (whole (BadPolicy part), (part, h, refl))

  pub sums_or : StandsOr at_sums ((delivered : ArtifactMap)
      × AreListed inputs.sums inputs.sums512 delivered)
  sums_or = go (lists_of inputs.sums inputs.sums512) (lists_of-is inputs.sums inputs.sums512)
    where
      go : (r : Result ArtifactMap BadLine)
          → MatchResult r (AreListed inputs.sums inputs.sums512)
          (IsFirstBadIn inputs.sums inputs.sums512) → StandsOr at_sums ((delivered : ArtifactMap)
          × AreListed inputs.sums inputs.sums512 delivered)
      go (Ok delivered) h = inr ((delivered, h), clear_sums panel inputs delivered h)
      go (Err line) h = inl (whole (line_fault line), (line, h, refl))

  pub moment_or : StandsOr at_moment ((moment : ℤ) × MomentOf inputs.moment moment)
  moment_or = go (moment_of inputs.moment) (moment_of-finds inputs.moment)
    where
      go : (found : Option ℤ) → Finds (MomentOf inputs.moment) found
          → StandsOr at_moment ((moment : ℤ) × MomentOf inputs.moment moment)
      go (Some moment) h = inr ((moment, h), clear_moment panel inputs moment h)
      go None h = inl (whole BadMoment, (h, refl))

  pub files_or : (delivered : ArtifactMap) → AreListed inputs.sums inputs.sums512 delivered
      → StandsOr at_files (delivered ≢ empty)
  files_or delivered h =
      elim (settled_by (is_same_map delivered empty) (is_same_map-Decides delivered empty)) [
        | inl same ↦ inl (
          whole NoFiles,
          (
            subst (AreListed inputs.sums inputs.sums512) same
                h,
            refl,
          ),
        )
        | inr some ↦ inr (some, clear_files panel inputs delivered h some)
      ]

  pub envelope_or : StandsOr at_envelope ((envelope : Envelope) × EnvelopeOf inputs.layout envelope)
  envelope_or = go (envelope_of inputs.layout) (envelope_of-finds inputs.layout)
    where
      go : (found : Option Envelope) → Finds (EnvelopeOf inputs.layout) found
          → StandsOr at_envelope ((envelope : Envelope) × EnvelopeOf inputs.layout envelope)
      go (Some envelope) h = inr ((envelope, h), clear_envelope panel inputs envelope h)
      go None h = inl (whole BadEnvelope, (h, refl))

  module _ (envelope : Envelope) (is_envelope : EnvelopeOf inputs.layout envelope) where
    pub payload_type_or : StandsOr at_payload_type (envelope.payload_type ≡ in_toto_type)
    payload_type_or = elim (settled_by (bytes_eq envelope.payload_type in_toto_type)
        (bytes_eq-Decides envelope.payload_type in_toto_type)) [
          | inl same ↦ inr (same, clear_type panel inputs envelope is_envelope same)
          | inr other ↦ inl (whole WrongPayloadType, (envelope, is_envelope, other, refl))
        ]

    signs_or_lacks : (owner : List ℕ × KeyObject)
        → ((refusal : Refusal) × OwnerLacks panel envelope owner refusal)
        ⊎ Signs panel envelope owner
    signs_or_lacks owner = elim (signer_or_not panel envelope owner.1 owner.0) [
      | inl signs ↦ inr signs
      | inr lacks ↦ inl (whole (OwnerMissing owner.0), (lacks, refl))
    ]

    pub owners_or : (policy : Policy) → PolicyOf inputs.policy policy
        → StandsOr at_owners (OwnersSign panel envelope policy.owners)
    owners_or policy is_policy =
        elim (first_or_all (OwnerLacks panel envelope) (Signs panel envelope)
        (signs_apart panel envelope) signs_or_lacks (entries policy.owners)) [
          | inl found ↦ inl (found.0, (policy, envelope, is_policy, is_envelope, found.1))
          | inr goods ↦
              let sign = owners_sign panel envelope policy.owners goods in
              inr (sign, clear_owners panel inputs envelope is_envelope policy is_policy sign)
        ]

    pub layout_or : StandsOr at_layout ((layout : Layout) × LayoutOf envelope.payload layout)
    layout_or = go (layout_result envelope.payload) (layout_result-is envelope.payload)
      where
        go : (r : Result Layout LayoutPart) → MatchResult r (LayoutOf envelope.payload)
            (LayoutPartOf envelope.payload)
            → StandsOr at_layout ((layout : Layout) × LayoutOf envelope.payload layout)
        go (Ok layout) h =
            inr ((layout, h), clear_layout panel inputs envelope is_envelope layout h)
        go (Err part) h = inl (whole (BadLayout part), (envelope, part, is_envelope, h, refl))
