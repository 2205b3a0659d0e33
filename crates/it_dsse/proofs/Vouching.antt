-- What the answer of the loop over the signatures says of an envelope.
use Rattle.std.proofs.Common.{◌≡◌, ℕ, List, Bool, true, false, ◌&&◌, Some, refl, sym, subst, ◌∙◌}
use Rattle.std.specs.List.{Any}
use Rattle.std.proofs.lemmas.List.Folds.{Any-from_list_any, list_any-from_Any}
use Rattle.std.proofs.lemmas.Option.{same_Some}
use Rattle.it_dsse.specs.Panel.{KeyNumber, Panel}
use Rattle.it_dsse.specs.Signed.{Signed, Vouches, is_admitted, message_of}
use Rattle.it_dsse.specs.Vouched.{is_vouched}
use Rattle.it_dsse.specs.declared.envelope.Envelope.{Envelope}
use Rattle.it_dsse.specs.declared.envelope.Signature.{Signature}
use Rattle.it_dsse.specs.declared.key_object.KeyObject.{KeyObject}

both : (a b : Bool) → (a && b) ≡ true → (a ≡ true) × (b ≡ true)
both true true e = (refl, refl)
both true false e = cc
both false b e = cc

abbrev passes : Panel → List ℕ → KeyNumber → List ℕ → Signature → Bool
passes panel id n message s = is_admitted id s && panel.is_valid n message s.sig

some_vouches : (panel : Panel) (id : List ℕ) (n : KeyNumber) (message : List ℕ)
    (signatures : List Signature)
    → is_vouched panel id n message signatures ≡ true → Any (Vouches panel id n message) signatures
some_vouches panel id n message signatures e =
    let found = Any-from_list_any (passes panel id n message) signatures e in
    let parts = both (is_admitted id found.1) (panel.is_valid n message found.1.sig) found.4 in
    (found.0, found.1, found.2, found.3, record { admitted = parts.0; valid = parts.1 })

vouched_by_some : (panel : Panel) (id : List ℕ) (n : KeyNumber) (message : List ℕ)
    (signatures : List Signature)
    → Any (Vouches panel id n message) signatures → is_vouched panel id n message signatures ≡ true
vouched_by_some panel id n message signatures found =
    list_any-from_Any (passes panel id n message) signatures (
      found.0,
      found.1,
      found.2,
      found.3,
      rw (found.4.admitted, found.4.valid),
    )

pub signed_found : (panel : Panel) (envelope : Envelope) (id : List ℕ) (object : KeyObject)
    (n : KeyNumber) → Some n ≡ panel.key_of id object
    → is_vouched panel id n (message_of envelope) envelope.signatures ≡ true
    → Signed panel envelope id object n
signed_found panel envelope id object n key e =
    record {
      key = sym key;
      signature = some_vouches panel id n (message_of envelope)
          envelope.signatures e;
    }

pub not_signed : (panel : Panel) (envelope : Envelope) (id : List ℕ) (object : KeyObject)
    (n : KeyNumber) → Some n ≡ panel.key_of id object
    → is_vouched panel id n (message_of envelope) envelope.signatures ≡ false → (k : KeyNumber)
    → Signed panel envelope id object k → ⊥
not_signed panel envelope id object n key e k signed =
    let same : k ≡ n = same_Some k n (sym signed.key ∙ sym key) in
    let found : is_vouched panel id k (message_of envelope) envelope.signatures ≡ true =
    vouched_by_some panel id k (message_of envelope) envelope.signatures signed.signature in
    let found' : is_vouched panel id n (message_of envelope) envelope.signatures ≡ true =
    subst (λ m. is_vouched panel id m (message_of envelope) envelope.signatures ≡ true) same
    found in
    cc
