-- What lacks the form of a signature is none.
use Rattle.std.proofs.Common.{◌≡◌, ◌<◌, ◌^◌, ◌↔◌, ℕ, List, Bool, true, false, IsTrue, arith, refl}
use Rattle.std.proofs.lemmas.Bool.Decides.{not_from_Decides}
use Rattle.sha2.specs.Sha512.{sha384}
use Rattle.it_p256_order.specs.Order.{group_order}
use Rattle.it_public_keys.specs.Form.{HasForm}
use Rattle.it_public_keys.specs.Validity.{is_signature_with}
use Rattle.it_public_keys.specs.declared.key.Key.{Key}
use Rattle.it_public_keys.specs.declared.key.Key.TheVariants.{Ed25519, P256, P384, Rsa}
use Rattle.it_public_keys.proofs.Ed25519Tests.{ed25519_decides}
use Rattle.it_public_keys.proofs.P256Tests.{p256_decides}
use Rattle.it_public_keys.proofs.P384Tests.{p384_decides}
use Rattle.it_public_keys.proofs.RsaTests.{rsa_decides}

-- a number below the order has at most 256 bits
order_fits : (n : ℕ) → n < group_order → n < 2 ^ 256
order_fits n below = omega arith

-- a signature has the form
signed_has_form : (key : Key) (digest message sig : List ℕ)
    → is_signature_with key digest message sig ≡ true → HasForm key sig
signed_has_form (Ed25519 bytes) digest message sig passes =
    ((ed25519_decides bytes message sig).0 passes).long
signed_has_form (P256 key) digest message sig passes =
    let signed = (p256_decides key digest sig).0 passes in
    record {
      r = signed.r;
      s = signed.s;
      r_small = order_fits signed.r signed.good.r_good.below;
      s_small = order_fits signed.s signed.good.s_good.below;
      encoded = signed.encoded;
    }
signed_has_form (P384 key) digest message sig passes =
    let signed = (p384_decides key (sha384 message) sig).0 passes in
    record { r = signed.r; s = signed.s; encoded = signed.encoded }
signed_has_form (Rsa key) digest message sig passes = ((rsa_decides key digest sig).0 passes).long

none_passes : (passes : Bool) → (passes ≡ true → ⊥) → false ≡ passes
none_passes true none = absurd (none refl)
none_passes false none = refl

-- so what lacks it is none
pub formless_is_none : (key : Key) (digest message sig : List ℕ) (has_form : Bool)
    → IsTrue has_form ↔ HasForm key sig → has_form ≡ false
    → false ≡ is_signature_with key digest message sig
formless_is_none key digest message sig has_form tells lacks =
    none_passes _ (λ passes. not_from_Decides has_form tells lacks
    (signed_has_form key digest message sig passes))
