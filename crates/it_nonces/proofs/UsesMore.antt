-- Signatures of a signer, one more.
use Rattle.std.proofs.Common.{◌≡◌, ◌++◌, ◌∷◌, [], List, Option, Some, None, append-nil, codes}
use Rattle.std.proofs.Common.{inl, refl, sym}
use Rattle.std.specs.List.{cons_option}
use Rattle.std.proofs.lemmas.Slice.Zip.{all_zipped_more}
use Rattle.it_dsse.specs.Panel.{KeyNumber, Panel}
use Rattle.it_dsse.specs.declared.envelope.Envelope.{Envelope}
use Rattle.it_dsse.specs.declared.envelope.Signature.{Signature}
use Rattle.it_dsse.specs.declared.key_object.KeyObject.{KeyObject}
use Rattle.it_dsse.proofs.Keeping.{keep_last, pass_last}
use Rattle.it_nonces.specs.EnvelopeUses.{AreReadFrom, AreUses, EnvelopeUses, HasNumbers, IsUse}
use Rattle.it_nonces.specs.EnvelopeUses.{IsUseOrNone}
use Rattle.it_nonces.specs.declared.nonce_use.NonceUse.{NonceUse}
use Rattle.it_nonces.specs.declared.signer.Signer.{Signer}

module _ (signer : Signer) (n : KeyNumber) where
  pub none_read : AreReadFrom signer n [] []
  none_read = record { numbered = []; are_those = refl; each = tt }

  pub read_more : (done : List Signature) (uses : List NonceUse) (signature : Signature)
      (found : Option NonceUse) → AreReadFrom signer n done uses
      → IsUseOrNone signer n signature found
      → AreReadFrom signer n (done ++ signature ∷ []) (uses ++ cons_option found [])
  read_more done uses signature None are none = rw (append-nil uses) (record {
    numbered = are.numbered;
    are_those = pass_last HasNumbers done are.numbered signature are.are_those none;
    each = are.each;
  })
  read_more done uses signature (Some at) are is = record {
    numbered = are.numbered ++ signature ∷ [];
    are_those = keep_last HasNumbers done are.numbered signature are.are_those is.0;
    each = all_zipped_more (IsUse signer n) are.numbered uses signature at are.each is.1;
  }

-- ---- whether an object describes a key of ECDSA over P-256
module _ (panel : Panel) (envelope : Envelope) (signer : Signer) (object : KeyObject) where
  pub curve_uses : (n : KeyNumber) → object.scheme ≡ codes "ecdsa-sha2-nistp256"
      → Some n ≡ panel.key_of signer.id object → (uses : List NonceUse)
      → AreUses panel envelope signer n uses → EnvelopeUses panel envelope signer object uses
  curve_uses n scheme known uses are =
      inl (n, record { scheme_is = scheme; key_is = sym known }, are)
