-- How many checks the owners may ask for.
use Rattle.std.proofs.Common.{◌≡◌, ◌*◌, ◌≤◌, ℕ, length, ⊎_elim, subst, sym, ◌∙◌}
use Rattle.std.specs.FinMap.{len}
use Rattle.it_dsse.specs.Envelope.{EnvelopeOf}
use Rattle.it_dsse.specs.Meter.{RaisedBy}
use Rattle.it_dsse.specs.declared.envelope.Envelope.{Envelope}
use Rattle.it_dsse.specs.declared.meter.Meter.{Meter}
use Rattle.it_docs.specs.Policy.{PolicyOf}
use Rattle.it_docs.specs.declared.policy.Policy.{Policy}
use Rattle.it_docs.proofs.Same.{policy_same}
use Rattle.it_chain.proofs.Documents.{envelope_same}
use Rattle.it_verify.specs.VerificationCost.{OwnersCost}
use Rattle.it_verify.specs.declared.inputs.Inputs.{Inputs}

module _ (inputs : Inputs) (policy : Policy) (envelope : Envelope)
    (is_policy : PolicyOf inputs.policy policy)
    (is_envelope : EnvelopeOf inputs.layout envelope) where
  abbrev many : ℕ
  many = len policy.owners * length envelope.signatures

  cost_is : (most : ℕ) → OwnersCost inputs most → most ≡ many
  cost_is most = ⊎_elim
      (λ x. x.2 ∙ (λ i. len (policy_same inputs.policy x.0.0 policy x.1.0 is_policy i).owners *
      length (envelope_same inputs.layout x.0.1 envelope x.1.1 is_envelope i).signatures))
      (λ x. absurd (x.0 (policy, envelope) (is_policy, is_envelope)))

  pub owners_at_most : (old new : Meter) → RaisedBy (λ n. n ≤ many) old new → (most : ℕ)
      → OwnersCost inputs most → RaisedBy (λ n. n ≤ most) old new
  owners_at_most old new raised most cost = subst (λ m. RaisedBy (λ n. n ≤ m) old new)
      (sym (cost_is most cost)) raised
