-- Where the documents read, some file is delivered and the owners signed, nothing stands at the
-- places that speak of the documents alone.
use Rattle.std.proofs.Common.{◌≡◌, ◌≢◌, ℕ, ℤ, List, [], ◌∷◌, Contains, sym, subst}
use Rattle.std.specs.FinMap.{empty, entries}
use Rattle.it_base.proofs.Members.{in_head, in_tail}
use Rattle.it_base.specs.Places.{IsFirst, NoneAt}
use Rattle.it_base.proofs.Firsts.{none_first}
use Rattle.it_digest.specs.Artifacts.{ArtifactMap}
use Rattle.it_digest.specs.Listed.{AreListed}
use Rattle.it_digest.proofs.ListedLemmas.{AreListed_same, IsFirstBadIn-none}
use Rattle.it_dsse.specs.Panel.{Panel}
use Rattle.it_dsse.specs.Envelope.{EnvelopeOf}
use Rattle.it_dsse.specs.Signed.{IsSigner}
use Rattle.it_dsse.specs.declared.envelope.Envelope.{Envelope}
use Rattle.it_dsse.specs.declared.key_object.KeyObject.{KeyObject}
use Rattle.it_docs.specs.Layout.{LayoutOf}
use Rattle.it_docs.specs.Moment.{MomentOf}
use Rattle.it_docs.specs.PayloadType.{in_toto_type}
use Rattle.it_docs.specs.Policy.{PolicyOf}
use Rattle.it_docs.specs.declared.layout.Layout.{Layout}
use Rattle.it_docs.specs.declared.policy.Policy.{Policy}
use Rattle.it_docs.proofs.Refusals.{no_layout, no_policy}
use Rattle.it_docs.proofs.Same.{policy_same}
use Rattle.it_chain.proofs.Documents.{envelope_same}
use Rattle.it_chain.proofs.Entries.{entry_known}
use Rattle.it_verify.specs.Documents.{Documents}
use Rattle.it_verify.specs.Owners.{OwnerLacks}
use Rattle.it_verify.specs.RefusedFor.{Stage, at_policy, at_sums, at_moment, at_files, at_envelope}
use Rattle.it_verify.specs.RefusedFor.{at_payload_type, at_owners, at_layout, FailsAt}
use Rattle.it_verify.specs.Owners.{OwnersSign}
use Rattle.it_verify.specs.inside.DocumentsHold.{DocumentsHold, document_stages}
use Rattle.it_verify.specs.declared.inputs.Inputs.{Inputs}
use Rattle.it_report.specs.declared.refusal.Refusal.{Refusal}

none_lacks : (panel : Panel) (envelope : Envelope) (owners : List (List ℕ × KeyObject))
    → ((owner : List ℕ × KeyObject) → Contains owners owner
    → IsSigner panel envelope owner.1 owner.0) → NoneAt (OwnerLacks panel envelope) owners
none_lacks panel envelope [] sign = tt
none_lacks panel envelope (o ∷ os) sign = (
  λ refusal x. x.0 (sign o (in_head o os)),
  none_lacks panel envelope os
      (λ owner c. sign owner (in_tail o os owner c)),
)

module _ (panel : Panel) (inputs : Inputs) where
  -- nothing stands at a place
  abbrev pub Clear : Stage → Type 0
  Clear place = (refusal : Refusal) → ¬ FailsAt panel inputs place refusal

  pub clear_policy : (policy : Policy) → PolicyOf inputs.policy policy → Clear at_policy
  clear_policy policy h refusal x = no_policy inputs.policy x.0 x.1 policy h

  pub clear_sums : (delivered : ArtifactMap) → AreListed inputs.sums inputs.sums512 delivered
      → Clear at_sums
  clear_sums delivered h refusal x =
      IsFirstBadIn-none inputs.sums inputs.sums512 x.0 x.1 delivered h

  pub clear_moment : (moment : ℤ) → MomentOf inputs.moment moment → Clear at_moment
  clear_moment moment h refusal x = x.0 moment h

  pub clear_files : (delivered : ArtifactMap) → AreListed inputs.sums inputs.sums512 delivered
      → delivered ≢ empty
      → Clear at_files
  clear_files delivered h some refusal x = some (AreListed_same inputs.sums
      inputs.sums512 empty delivered x.0 h)

  module _ (envelope : Envelope) (is_envelope : EnvelopeOf inputs.layout envelope) where
    same_envelope : (other : Envelope) → EnvelopeOf inputs.layout other → envelope ≡ other
    same_envelope other = envelope_same inputs.layout envelope other is_envelope

    pub clear_envelope : Clear at_envelope
    clear_envelope refusal x = x.0 envelope is_envelope

    pub clear_type : envelope.payload_type ≡ in_toto_type → Clear at_payload_type
    clear_type same refusal x =
        x.2 (subst (λ (e : Envelope). e.payload_type ≡ in_toto_type) (same_envelope x.0 x.1) same)

    pub clear_owners : (policy : Policy) → PolicyOf inputs.policy policy
        → OwnersSign panel envelope policy.owners → Clear at_owners
    clear_owners policy is_policy sign refusal x =
        none_first (OwnerLacks panel envelope) (entries policy.owners) refusal
        (none_lacks panel envelope (entries policy.owners)
        (λ owner c. sign owner.0 owner.1 (entry_known policy.owners owner c)))
        (subst (λ e. IsFirst (OwnerLacks panel e) (entries policy.owners) refusal)
        (sym (same_envelope x.1 x.3))
        (subst (λ (p : Policy). IsFirst (OwnerLacks panel x.1) (entries p.owners) refusal)
        (policy_same inputs.policy x.0 policy x.2 is_policy) x.4))

    pub clear_layout : (layout : Layout) → LayoutOf envelope.payload layout → Clear at_layout
    clear_layout layout h refusal x = no_layout x.0.payload x.1 x.3 layout
        (subst (λ (e : Envelope). LayoutOf e.payload layout) (same_envelope x.0 x.2) h)

  pub documents_stand : (documents : Documents) → DocumentsHold panel inputs documents
      → NoneAt (FailsAt panel inputs) document_stages
  documents_stand documents hold =
      let read = hold.read in
      let envelope = documents.envelope in (
        clear_policy documents.policy read.policy,
        (
          clear_sums documents.delivered read.delivered,
          (
            clear_moment documents.moment read.moment,
            (
              clear_files documents.delivered read.delivered hold.some_file,
              (
                clear_envelope envelope read.envelope,
                (
                  clear_type envelope read.envelope read.payload_type,
                  (
                    clear_owners envelope read.envelope documents.policy read.policy hold.owners,
                    (clear_layout envelope read.envelope documents.layout read.layout, tt),
                  ),
                ),
              ),
            ),
          ),
        ),
      )
