-- What stands first where one of the documents fails and those before it do not, and what was read
-- before it.
use Rattle.std.proofs.Common.{◌≡◌, ◌≢◌, ◌++◌, ℕ, ℤ, List, [], ◌∷◌, drop, inl, subst, sym, take}
use Rattle.std.proofs.Common.{⊎_elim}
use Rattle.std.specs.FinMap.{empty, entries}
use Rattle.it_base.specs.Places.{IsFirst, NoneAt}
use Rattle.it_base.proofs.Firsts.{first_behind, none_append}
use Rattle.it_digest.specs.Artifacts.{ArtifactMap}
use Rattle.it_digest.specs.Listed.{AreListed}
use Rattle.it_digest.specs.declared.listed.BadLine.{BadLine}
use Rattle.it_digest.specs.declared.listed.BadLine.TheVariants.{InSha256, InSha512}
use Rattle.it_dsse.specs.Panel.{Panel}
use Rattle.it_dsse.specs.Envelope.{EnvelopeOf}
use Rattle.it_dsse.specs.declared.envelope.Envelope.{Envelope}
use Rattle.it_docs.specs.LayoutPart.{LayoutPartOf}
use Rattle.it_docs.specs.Moment.{MomentOf}
use Rattle.it_docs.specs.PayloadType.{in_toto_type}
use Rattle.it_docs.specs.Policy.{PolicyOf}
use Rattle.it_docs.specs.declared.layout_fault.LayoutPart.{LayoutPart}
use Rattle.it_docs.specs.declared.policy.Policy.{Policy}
use Rattle.it_verify.specs.Grounds.{IsInEnvelope, IsRefused}
use Rattle.it_verify.specs.Owners.{OwnerLacks}
use Rattle.it_verify.specs.Refusals.{whole}
use Rattle.it_verify.specs.RefusedFor.{Stage, at_policy, at_sums, at_moment, at_files, at_envelope}
use Rattle.it_verify.specs.RefusedFor.{at_payload_type, at_owners, RefusedFor, FailsAt}
use Rattle.it_verify.specs.RefusedFor.{line_fault, stages}
use Rattle.it_verify.specs.Owners.{OwnersSign}
use Rattle.it_verify.specs.inside.DocumentsHold.{LacksLayout}
use Rattle.it_verify.specs.inside.Failures.{RefusedAs}
use Rattle.it_verify.specs.declared.failure.Failure.{Failure}
use Rattle.it_verify.specs.declared.grounds.Before.TheVariants as had
use Rattle.it_verify.specs.declared.grounds.Before.TheVariants.{Nothing}
use Rattle.it_verify.specs.declared.inputs.Inputs.{Inputs}
use Rattle.it_report.specs.declared.refusal.Fault.{Fault}
use Rattle.it_report.specs.declared.refusal.Fault.TheVariants.{BadPolicy, BadMoment, NoFiles}
use Rattle.it_report.specs.declared.refusal.Fault.TheVariants.{BadEnvelope, WrongPayloadType}
use Rattle.it_report.specs.declared.refusal.Fault.TheVariants.{BadLayout}
use Rattle.it_report.specs.declared.refusal.Refusal.{Refusal}
use Rattle.it_verify.proofs.DocumentsRead.{Clear, clear_policy, clear_sums, clear_moment}
use Rattle.it_verify.proofs.DocumentsRead.{clear_files, clear_envelope, clear_type, clear_owners}
use Rattle.it_verify.proofs.Failures.{refused_weaker}

module _ (panel : Panel) (inputs : Inputs) where
  abbrev At : Stage → Refusal → Type 0
  At = FailsAt panel inputs

  -- a failure before anything was read that is handed out
  abbrev IsUnread : Failure → Type 0
  IsUnread = RefusedAs (IsRefused panel inputs Nothing)

  not_in : (r : Refusal) (fault : Fault) → r ≡ whole fault → ¬ IsInEnvelope fault
      → ¬ IsInEnvelope r.fault
  not_in r fault is = subst (λ (q : Refusal). ¬ IsInEnvelope q.fault) (sym is)

  line_not_in : (bad : BadLine) → ¬ IsInEnvelope (line_fault bad)
  line_not_in (InSha256 line) is = is
  line_not_in (InSha512 line) is = is

  -- what stands at a place, behind places at which nothing does, and is not in the envelope
  unread_at : (before : List Stage) (place : Stage) (later : List Stage) (e : Failure)
      → NoneAt At before → ((r : Refusal) → At place r → ¬ IsInEnvelope r.fault)
      → RefusedAs (At place) e
      → RefusedAs (λ r. IsFirst At (before ++ place ∷ later) r × ¬ IsInEnvelope r.fault) e
  unread_at before place later e none apart h = refused_weaker (At place)
      (λ r. IsFirst At (before ++ place ∷ later) r × ¬ IsInEnvelope r.fault) e
      (λ r x. (first_behind At before (place ∷ later) r none (inl x), apart r x)) h

  pub policy_fails : (e : Failure) → RefusedAs (At at_policy) e → IsUnread e
  policy_fails e h = unread_at [] at_policy (drop 1 stages) e tt
      (λ r x. not_in r (BadPolicy x.0) x.2 (λ is. is)) h

  and_at : (before : List Stage) (place : Stage) → NoneAt At before → Clear panel inputs place
      → NoneAt At (before ++ place ∷ [])
  and_at before place none clear = none_append At before (place ∷ []) none (clear, tt)

  module _ (policy : Policy) (is_policy : PolicyOf inputs.policy policy) where
    none_to_policy : NoneAt At (take 1 stages)
    none_to_policy = (clear_policy panel inputs policy is_policy, tt)

    pub sums_fail : (e : Failure) → RefusedAs (At at_sums) e → IsUnread e
    sums_fail e h = unread_at (take 1 stages) at_sums (drop 2 stages) e none_to_policy
        (λ r x. not_in r (line_fault x.0) x.2 (line_not_in x.0)) h

    module _ (delivered : ArtifactMap)
        (is_delivered : AreListed inputs.sums inputs.sums512 delivered) where
      none_to_sums : NoneAt At (take 2 stages)
      none_to_sums = and_at (take 1 stages) at_sums none_to_policy
          (clear_sums panel inputs delivered is_delivered)

      pub moment_fails : (text : List ℕ) (e : Failure) → text ≡ inputs.moment
          → RefusedAs (λ refusal. ((moment : ℤ) → ¬ MomentOf text moment)
          × (refusal ≡ whole BadMoment)) e → IsUnread e
      moment_fails text e same h =
          unread_at (take 2 stages) at_moment (drop 3 stages) e none_to_sums
          (λ r x. not_in r BadMoment x.1 (λ is. is))
          (subst (λ t. RefusedAs (λ refusal. ((moment : ℤ) → ¬ MomentOf t moment)
          × (refusal ≡ whole BadMoment)) e) same h)

      module _ (moment : ℤ) (is_moment : MomentOf inputs.moment moment) where
        none_to_moment : NoneAt At (take 3 stages)
        none_to_moment = and_at (take 2 stages) at_moment none_to_sums
            (clear_moment panel inputs moment is_moment)

        pub no_files_fail : (e : Failure)
            → RefusedAs (λ refusal. (delivered ≡ empty) × (refusal ≡ whole NoFiles)) e
            → IsUnread e
        no_files_fail e h =
            unread_at (take 3 stages) at_files (drop 4 stages) e none_to_moment
            (λ r x. not_in r NoFiles x.1 (λ is. is))
            (refused_weaker (λ refusal. (delivered ≡ empty) × (refusal ≡ whole NoFiles))
            (At at_files) e (λ r x. (
              subst (AreListed inputs.sums inputs.sums512) x.0 is_delivered,
              x.1,
            )) h)

        module _ (some_file : delivered ≢ empty) where
          none_to_files : NoneAt At (take 4 stages)
          none_to_files = and_at (take 3 stages) at_files none_to_moment
              (clear_files panel inputs delivered is_delivered some_file)

          pub envelope_fails : (bytes : List ℕ) (e : Failure) → bytes ≡ inputs.layout
              → RefusedAs (λ refusal. ((envelope : Envelope) → ¬ EnvelopeOf bytes envelope)
              × (refusal ≡ whole BadEnvelope)) e → IsUnread e
          envelope_fails bytes e same h =
              unread_at (take 4 stages) at_envelope (drop 5 stages) e none_to_files
              (λ r x. not_in r BadEnvelope x.1 (λ is. is))
              (subst (λ b. RefusedAs (λ refusal. ((envelope : Envelope) → ¬ EnvelopeOf b envelope)
              × (refusal ≡ whole BadEnvelope)) e) same h)

          module _ (envelope : Envelope) (is_envelope : EnvelopeOf inputs.layout envelope) where
            none_to_envelope : NoneAt At (take 5 stages)
            none_to_envelope = and_at (take 4 stages) at_envelope none_to_files
                (clear_envelope panel inputs envelope is_envelope)

            type_first : (r : Refusal) → envelope.payload_type ≢ in_toto_type
                → r ≡ whole WrongPayloadType → RefusedFor panel inputs r
            type_first r other is = first_behind At (take 5 stages) (drop 5 stages) r
                none_to_envelope (inl (envelope, is_envelope, other, is))

            module _ (in_toto : envelope.payload_type ≡ in_toto_type) where
              none_to_type : NoneAt At (take 6 stages)
              none_to_type = and_at (take 5 stages) at_payload_type none_to_envelope
                  (clear_type panel inputs envelope is_envelope in_toto)

              owner_first : (r : Refusal)
                  → IsFirst (OwnerLacks panel envelope) (entries policy.owners) r
                  → RefusedFor panel inputs r
              owner_first r first = first_behind At (take 6 stages) (drop 6 stages) r
                  none_to_type (inl (policy, envelope, is_policy, is_envelope, first))

              module _ (sign : OwnersSign panel envelope policy.owners) where
                none_to_owners : NoneAt At (take 7 stages)
                none_to_owners = and_at (take 6 stages) at_owners none_to_type
                    (clear_owners panel inputs envelope is_envelope policy is_policy sign)

                part_first : (r : Refusal) (part : LayoutPart)
                    → LayoutPartOf envelope.payload part → r ≡ whole (BadLayout part)
                    → RefusedFor panel inputs r
                part_first r part fails is = first_behind At (take 7 stages) (drop 7 stages) r
                    none_to_owners (inl (envelope, part, is_envelope, fails, is))

            lacks_first : (r : Refusal) → LacksLayout panel envelope policy.owners r
                → RefusedFor panel inputs r
            lacks_first r = ⊎_elim (λ x. type_first r x.0 x.1)
                (⊎_elim (λ x. owner_first x.0 r x.1)
                (λ x. part_first x.1 x.2 r x.0 x.3 x.4))

            -- what was read where no layout in the envelope counts
            pub layout_lacks : (e : Failure)
                → RefusedAs (LacksLayout panel envelope policy.owners) e
                → RefusedAs (IsRefused panel inputs
                (had.Begun (record { policy = policy; envelope = envelope }))) e
            layout_lacks e h = refused_weaker (LacksLayout panel envelope policy.owners)
                (IsRefused panel inputs
                (had.Begun (record { policy = policy; envelope = envelope }))) e
                (λ r x. (
                  lacks_first r x,
                  record { policy = is_policy; envelope = is_envelope },
                )) h
