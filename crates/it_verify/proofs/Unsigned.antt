-- Why no layout in an envelope counts.
use Rattle.std.proofs.Common.{◌≡◌, ◌≢◌, MatchResult, Result, Ok, Err, inl, inr}
use Rattle.std.specs.FinMap.{entries}
use Rattle.it_base.specs.Places.{IsFirst}
use Rattle.it_base.specs.Table.{Named}
use Rattle.it_dsse.specs.Panel.{Panel}
use Rattle.it_dsse.specs.declared.envelope.Envelope.{Envelope}
use Rattle.it_dsse.specs.declared.key_object.KeyObject.{KeyObject}
use Rattle.it_docs.specs.Layout.{LayoutOf}
use Rattle.it_docs.specs.LayoutPart.{LayoutPartOf}
use Rattle.it_docs.specs.PayloadType.{in_toto_type}
use Rattle.it_docs.specs.declared.layout.Layout.{Layout}
use Rattle.it_docs.specs.declared.layout_fault.LayoutPart.{LayoutPart}
use Rattle.it_report.specs.declared.refusal.Fault.TheVariants.{BadLayout, WrongPayloadType}
use Rattle.it_verify.specs.Owners.{OwnerLacks, OwnersSign}
use Rattle.it_verify.specs.Refusals.{whole}
use Rattle.it_verify.specs.inside.DocumentsHold.{IsSignedLayout, LacksLayout}
use Rattle.it_verify.specs.inside.Failures.{RefusedAs}
use Rattle.it_verify.specs.declared.failure.Failure.{Failure}
use Rattle.it_verify.proofs.Failures.{refused_weaker}

module _ (panel : Panel) (envelope : Envelope) (owners : Named KeyObject) where
  abbrev Lacks : Failure → Type 0
  Lacks = RefusedAs (LacksLayout panel envelope owners)

  pub other_type : (e : Failure)
      → RefusedAs (λ refusal. (envelope.payload_type ≢ in_toto_type)
      × (refusal ≡ whole WrongPayloadType)) e → Lacks e
  other_type e h = refused_weaker (λ refusal. (envelope.payload_type ≢ in_toto_type)
      × (refusal ≡ whole WrongPayloadType)) (LacksLayout panel envelope owners) e
      (λ r x. inl x) h

  module _ (in_toto : envelope.payload_type ≡ in_toto_type) where
    pub owner_lacks : (e : Failure)
        → RefusedAs (IsFirst (OwnerLacks panel envelope) (entries owners)) e → Lacks e
    owner_lacks e h = refused_weaker (IsFirst (OwnerLacks panel envelope) (entries owners))
        (LacksLayout panel envelope owners) e (λ r x. inr (inl (in_toto, x))) h

    module _ (sign : OwnersSign panel envelope owners) where
      part_lacks : (e : Failure)
          → RefusedAs (λ refusal. (part : LayoutPart) × LayoutPartOf envelope.payload part
          × (refusal ≡ whole (BadLayout part))) e → Lacks e
      part_lacks e h = refused_weaker
          (λ refusal. (part : LayoutPart) × LayoutPartOf envelope.payload part
          × (refusal ≡ whole (BadLayout part))) (LacksLayout panel envelope owners) e
          (λ r x. inr (inr (x.0, in_toto, sign, x.1, x.2))) h

      pub signed_or_lacks : (answer : Result Layout Failure)
          → MatchResult answer (LayoutOf envelope.payload)
          (RefusedAs (λ refusal. (part : LayoutPart) × LayoutPartOf envelope.payload part
          × (refusal ≡ whole (BadLayout part))))
          → MatchResult answer (IsSignedLayout panel envelope owners) Lacks
      signed_or_lacks (Ok layout) reads =
          record { payload_type = in_toto; sign = sign; reads = reads }
      signed_or_lacks (Err e) fails = part_lacks e fails
