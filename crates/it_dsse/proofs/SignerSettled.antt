-- The key under an id signed an envelope, or it did not.
use Rattle.std.proofs.Common.{◌≡◌, ℕ, List, Bool, true, false, Option, Some, None, inl, inr, refl}
use Rattle.std.proofs.Common.{◌∙◌}
use Rattle.it_base.proofs.Settled.{Settled}
use Rattle.it_dsse.specs.Panel.{KeyNumber, Panel}
use Rattle.it_dsse.specs.Signed.{IsSigner, message_of}
use Rattle.it_dsse.specs.Vouched.{is_vouched}
use Rattle.it_dsse.specs.declared.envelope.Envelope.{Envelope}
use Rattle.it_dsse.specs.declared.key_object.KeyObject.{KeyObject}
use Rattle.it_dsse.proofs.Vouching.{not_signed, signed_found}

module _ (panel : Panel) (envelope : Envelope) (object : KeyObject) (id : List ℕ) where
  with_key : (n : KeyNumber) → Some n ≡ panel.key_of id object → (b : Bool)
      → is_vouched panel id n (message_of envelope) envelope.signatures ≡ b
      → Settled (IsSigner panel envelope object id)
  with_key n key true e = inl (n, signed_found panel envelope id object n key e)
  with_key n key false e = inr (λ s. not_signed panel envelope id object n key e s.0 s.1)

  of_key : (found : Option KeyNumber) → found ≡ panel.key_of id object
      → Settled (IsSigner panel envelope object id)
  of_key None e = inr (λ s. let none : ◌≡◌ {A = Option KeyNumber} None (Some s.0) = e ∙ s.1.key in
      cc)
  of_key (Some n) e = with_key n e (is_vouched panel id n (message_of envelope) envelope.signatures)
      refl

  pub signer_or_not : Settled (IsSigner panel envelope object id)
  signer_or_not = of_key (panel.key_of id object) refl
